use Rattle.std.proofs.Common.{get_or, pos}
use Rattle.layers.proofs.Filling.{Added}
use Rattle.layers.proofs.fill.add_panel.Given as goal

-- the stations of the panel before this one are done
abbrev pub invariant-loop-station : goal.invariant-loop-station
invariant-loop-station g l = Added l.weight-items (λ s. get_or l.initial.weight-items s (pos 0)) (g.R.Rule.meaning l.below).weighting.weight l.station
