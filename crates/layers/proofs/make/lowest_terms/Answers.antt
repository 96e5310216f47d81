use Rattle.std.proofs.Common.{◌≡◌, ℕ, suc, List, ℤ, refl, ap, ◌∙◌}
use Rattle.algebra.proofs.Divisors.{common_divisor_greatest}
use Rattle.algebra.specs.Weights.{reduce_weight}
use Rattle.rules.specs.Meaning.{Meaning}
use Rattle.layers.specs.Filled.{Holds}
use Rattle.layers.specs.Layers.{divisor_of, reduced}
use Rattle.layers.specs.Sizing.{divided_sizes, sizes_of}
use Rattle.layers.specs.declared.layer.Layer.TheVariants.{LowestTerms}
use Rattle.layers.specs.declared.sizes.Sizes.{Sizes}
use Rattle.layers.proofs.Keeps.{lowest_terms_accepted, made_sound}
use Rattle.layers.proofs.Making.{tells_made, tells_sound}
use Rattle.layers.proofs.make.lowest_terms.Goals as goal

module _ (m : Meaning) (g : ℕ) (z : Sizes) (ws : List ℤ) (is : g ≡ divisor_of m) (ez : z ≡ divided_sizes g m) (h : Holds ws (reduce_weight g m.weighting.weight)) where
  sizes_are : z ≡ sizes_of (reduced m)
  sizes_are = ez ∙ ap (λ t. divided_sizes t m) is

  weights_are : Holds ws (reduced m).weighting.weight
  weights_are s = h s ∙ ap (λ t. reduce_weight t m.weighting.weight s) is

pub table-requires : goal.table-requires
table-requires g c =
    let m = g.R.Rule.meaning c.args.below in
    let sound = g.met.R.Rule.sound c.args.below in
    let d = c.divisor-divisor.result in
    let is = c.divisor-divisor.ensures.value in
    tells_sound (reduced m) c.divided.result c.reduce_weights-weights.result c.is_symmetric.result (made_sound LowestTerms m sound (lowest_terms_accepted m sound))
    (sizes_are m d c.divided.result c.reduce_weights-weights.result is c.divided.ensures c.reduce_weights-weights.ensures) c.is_symmetric.ensures
    (weights_are m d c.divided.result c.reduce_weights-weights.result is c.divided.ensures c.reduce_weights-weights.ensures)

pub returns-clause-value : goal.returns-clause-value
returns-clause-value g c =
    let m = g.R.Rule.meaning c.args.below in
    let d = c.divisor-divisor.result in
    let is = c.divisor-divisor.ensures.value in
    c.table.ensures ∙
    tells_made (reduced m) c.divided.result c.reduce_weights-weights.result c.is_symmetric.result refl
    (sizes_are m d c.divided.result c.reduce_weights-weights.result is c.divided.ensures c.reduce_weights-weights.ensures) c.is_symmetric.ensures
    (weights_are m d c.divided.result c.reduce_weights-weights.result is c.divided.ensures c.reduce_weights-weights.ensures)

pub returns-clause-greatest : goal.returns-clause-greatest
returns-clause-greatest g c =
    let m = g.R.Rule.meaning c.args.below in
    common_divisor_greatest m.weighting.denominator (suc m.span) m.weighting.weight
