-- The rule keeps the promises of a rule.
use Rattle.std.specs.Prelude.{zero, suc, [], ◌∷◌, pos, negsuc, ◌≤ℤ◌, refl}
use Rattle.std.proofs.Common.{arith, lit≤}
use borrow.Author.Differences.{ints, at_most_in}
use Rattle.std.proofs.lemmas.List.{get_or_past}
use Rattle.algebra.specs.Sums.{sum, abs, ◌^ℤ◌}
use Rattle.algebra.specs.Weights.{Exact}
use Rattle.rules.specs.Meaning.{Sound}
use Rattle.layers_tests.specs.OwnRule.{lopsided_rule}

exact : Exact 3 lopsided_rule.weighting.weight 8 2
unfolding sum ◌^ℤ◌
exact zero h = refl
exact (suc zero) h = refl
exact (suc (suc zero)) h = refl
exact (suc (suc (suc k))) h = absurd (omega arith)

within_ceiling : sum 4 (λ s. abs (lopsided_rule.weighting.weight s)) ≤ℤ pos 41
unfolding sum
within_ceiling = at_most_in _ _ (omega (arith, ints))

pub lopsided_sound : Sound lopsided_rule
lopsided_sound = record {
  span = record { least = lit≤ tt; most = lit≤ tt; stations = refl };
  denominator = record { least = lit≤ tt; most = lit≤ tt };
  beyond = λ s h. get_or_past (pos 8 ∷ negsuc 5 ∷ pos 24 ∷ negsuc 1 ∷ []) s (pos 0) (omega arith);
  ceiling = record { bounded = within_ceiling; most = lit≤ tt };
  exact = record { most = lit≤ tt; exact = exact };
  symmetry = record { mirrored = λ y s h. cc; odd = λ y. cc };
}
