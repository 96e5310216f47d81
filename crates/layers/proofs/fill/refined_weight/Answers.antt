use Rattle.std.proofs.Common.{◌^◌, arith}
use borrow.Author.Differences.{ints}
use Rattle.rules.proofs.Bounds.{weight_bound}
use Rattle.layers.proofs.Filling.{shifted_bound, stretch_bound}
use Rattle.layers.proofs.fill.refined_weight.Goals as goal

pub combination-requires-clause-left : goal.combination-requires-clause-left
combination-requires-clause-left g c =
    omega (arith, ints, c.weight-left.ensures, weight_bound (g.R.Rule.meaning c.args.below.now) (g.met.R.Rule.sound c.args.below.now) c.args.station)

pub combination-requires-clause-right : goal.combination-requires-clause-right
combination-requires-clause-right g c =
    let m = g.R.Rule.meaning c.args.below.now in
    let b = weight_bound m (g.met.R.Rule.sound c.args.below.now) in
    omega (arith, ints, c.shifted_weight-right.ensures, shifted_bound m.weighting.weight (2 ^ 40) c.args.span c.args.station b)

pub combination-requires-clause-coarse : goal.combination-requires-clause-coarse
combination-requires-clause-coarse g c =
    let m = g.R.Rule.meaning c.args.below.now in
    let b = weight_bound m (g.met.R.Rule.sound c.args.below.now) in
    omega (arith, ints, c.doubled_weight.ensures, stretch_bound 2 (2 ^ 40) m.weighting.weight c.args.station b)
