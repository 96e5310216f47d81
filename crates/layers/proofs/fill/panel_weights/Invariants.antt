use Rattle.algebra.specs.Weights.{panel_weight}
use Rattle.layers.specs.Filled.{Holds}
use Rattle.layers.proofs.fill.panel_weights.Given as goal

-- the panels before this one are added
abbrev pub invariant-loop-panel : goal.invariant-loop-panel
invariant-loop-panel g l = Holds l.weights (panel_weight l.panel (g.R.Rule.meaning l.below).span (g.R.Rule.meaning l.below).weighting.weight)
