use Rattle.std.proofs.Common.{◌*◌, ap, rules}
use Rattle.algebra.specs.Weights.{refine_weight}
use Rattle.algebra.proofs.Rows.{refine_beyond}
use Rattle.layers.proofs.Filling.{holds_row}
use Rattle.layers.proofs.fill.refine_weights.Goals as goal

pub returns : goal.returns
returns g c =
    let m = g.R.Rule.meaning c.args.below.now in
    holds_row c.filled.result (refine_weight c.args.factor m.span m.weighting.weight) (2 * c.span-span.result) (2 * m.span) (ap (λ t. 2 * t) c.span-span.ensures)
    (λ s h. let t = c.filled.ensures.told s h in search rules) c.filled.ensures.beyond
    (refine_beyond c.args.factor m.span m.weighting.weight (g.met.R.Rule.sound c.args.below.now).beyond)
