use Rattle.std.proofs.Common.{◌*◌}
use Rattle.algebra.specs.Weights.{stretch_weight}
use Rattle.layers.proofs.Filling.{Filled}
use Rattle.layers.proofs.fill.stretch_weights.Given as goal

-- the stations before this one's multiple are done
abbrev pub invariant-loop-station : goal.invariant-loop-station
invariant-loop-station g l = Filled l.weights (l.count * l.station) (stretch_weight l.count (g.R.Rule.meaning l.below).weighting.weight)
