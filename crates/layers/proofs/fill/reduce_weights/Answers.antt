use Rattle.std.proofs.Common.{rules}
use Rattle.algebra.specs.Weights.{reduce_weight}
use Rattle.algebra.proofs.Rows.{reduce_beyond}
use Rattle.layers.proofs.Filling.{holds_row}
use Rattle.layers.proofs.fill.reduce_weights.Goals as goal

pub returns : goal.returns
returns g c =
    let m = g.R.Rule.meaning c.args.below.now in
    holds_row c.filled.result (reduce_weight c.args.divisor m.weighting.weight) c.span.result m.span c.span.ensures (λ s h. let t = c.filled.ensures.told s h in search rules) c.filled.ensures.beyond
    (reduce_beyond c.args.divisor m.span m.weighting.weight (g.met.R.Rule.sound c.args.below.now).beyond)
