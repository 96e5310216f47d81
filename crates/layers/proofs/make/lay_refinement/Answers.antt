use Rattle.std.proofs.Common.{◌≡◌, ℕ, List, ℤ, sym, ap, ◌∙◌}
use Rattle.algebra.specs.Weights.{refine_weight}
use Rattle.rules.specs.Meaning.{Meaning}
use Rattle.layers.specs.Filled.{Holds}
use Rattle.layers.specs.Layers.{factor, refined}
use Rattle.layers.specs.declared.layer.Layer.TheVariants.{Refinement}
use Rattle.layers.proofs.Making.{table_made, table_sound}
use Rattle.layers.proofs.make.lay_refinement.Goals as goal

-- the factor handed over is that of the degree below
table_holds : (m : Meaning) (ws : List ℤ) (d f : ℕ) → d ≡ m.degree → f ≡ factor d → Holds ws (refine_weight f m.span m.weighting.weight) → Holds ws (refined m).weighting.weight
table_holds m ws d f ed ef h s = h s ∙ ap (λ t. refine_weight t m.span m.weighting.weight s) (ef ∙ ap factor ed)

pub table-requires : goal.table-requires
table-requires g c =
    table_sound Refinement c.args.place (g.R.Rule.meaning c.args.below) c.in_ok-sizes.sizes c.refine_weights-weights.result c.is_symmetric.result
    (sym c.in_ok-sizes.ensures) c.is_symmetric.ensures (table_holds (g.R.Rule.meaning c.args.below) c.refine_weights-weights.result c.degree.result c.factor.result c.degree.ensures c.factor.ensures.value c.refine_weights-weights.ensures) (g.met.R.Rule.sound c.args.below)

pub returns : goal.returns
returns g c =
    table_made Refinement c.args.place (g.R.Rule.meaning c.args.below) c.in_ok-sizes.sizes c.refine_weights-weights.result c.is_symmetric.result
    (sym c.in_ok-sizes.ensures) c.is_symmetric.ensures (table_holds (g.R.Rule.meaning c.args.below) c.refine_weights-weights.result c.degree.result c.factor.result c.degree.ensures c.factor.ensures.value c.refine_weights-weights.ensures) _ c.table.ensures
