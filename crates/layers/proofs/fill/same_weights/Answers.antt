use Rattle.std.proofs.Common.{rules}
use Rattle.layers.proofs.Filling.{holds_row}
use Rattle.layers.proofs.fill.same_weights.Goals as goal

pub returns : goal.returns
returns g c =
    let m = g.R.Rule.meaning c.args.below.now in
    holds_row c.filled.result m.weighting.weight c.span.result m.span c.span.ensures (λ s h. let t = c.filled.ensures.told s h in search rules) c.filled.ensures.beyond
    (g.met.R.Rule.sound c.args.below.now).beyond
