use Rattle.std.proofs.Common.{◌*◌, get_or, pos, ◌+ℤ◌, ap, ◌∙◌, arith}
use Rattle.algebra.specs.Weights.{shifted}
use Rattle.rules.proofs.Bounds.{weight_bound}
use Rattle.layers.proofs.Filling.{panels_none, panels_more, panels_bound, few_panels}
use Rattle.layers.proofs.fill.panel_weights.Goals as goal

pub loop-panel-init : goal.loop-panel-init
loop-panel-init g c =
    let m = g.R.Rule.meaning c.args.below.now in
    panels_none m.span m.weighting.weight

pub add_panel-requires-clause-small : goal.add_panel-requires-clause-small
add_panel-requires-clause-small g c =
    let m = g.R.Rule.meaning c.args.below.now in
    let sound = g.met.R.Rule.sound c.args.below.now in
    panels_bound c.loop-panel.weights c.loop-panel.panel m.span m.weighting.weight
    (omega (arith, few_panels c.args.count m.span sound.span.least c.requires, c.loop-panel-test.true)) (weight_bound m sound) c.loop-panel.invariant

pub loop-panel-preserved : goal.loop-panel-preserved
loop-panel-preserved g c =
    let m = g.R.Rule.meaning c.args.below.now in
    panels_more c.loop-panel.weights c.add_panel.new.weights c.loop-panel.panel m.span m.weighting.weight c.loop-panel.invariant
    (λ s.
    c.add_panel.ensures s ∙ ap (λ t. get_or c.loop-panel.weights s (pos 0) +ℤ shifted m.weighting.weight (c.loop-panel.panel * t) s) c.span-span.ensures)
