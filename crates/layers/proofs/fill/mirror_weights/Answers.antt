use Rattle.std.proofs.Common.{rules}
use Rattle.algebra.specs.Weights.{mirror_weight}
use Rattle.algebra.proofs.Rows.{mirror_beyond}
use Rattle.layers.proofs.Filling.{holds_row}
use Rattle.layers.proofs.fill.mirror_weights.Goals as goal

pub returns : goal.returns
returns g c =
    let m = g.R.Rule.meaning c.args.below.now in
    holds_row c.filled.result (mirror_weight m.span m.weighting.weight) c.span-span.result m.span c.span-span.ensures (λ s h. let t = c.filled.ensures.told s h in search rules) c.filled.ensures.beyond
    (mirror_beyond m.span m.weighting.weight)
