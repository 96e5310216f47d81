-- The table of the built-in rules: one test over all its rows, and what a row that passes it promises.
use Rattle.std.specs.Prelude.{◌≡◌, ℕ, suc, ◌-◌, ◌%◌, ◌^◌, ◌<◌, ◌≤◌, Bool, true, false, not, ◌&&◌, ◌||◌, [], length, ℤ, pos, ◌*ℤ◌, ◌==◌, nat_le, slice_index_or, unsigned_abs, refl}
use Rattle.std.proofs.Common.{sym, ap, ⊎_elim, arith}
use borrow.Author.Differences.{ints, at_most_in}
use Rattle.std.proofs.lemmas.Bool.{and_parts, both_ways, cases_lt, eqb-true, leb-true, not-true, or_cases}
use Rattle.std.proofs.lemmas.Bool.Decides.{Decides-int_eq}
use Rattle.std.specs.Ordering.{int_eq}
use Rattle.std.proofs.lemmas.List.{get_or_past}
use Rattle.algebra.specs.Sums.{sum, abs, ◌^ℤ◌}
use Rattle.algebra.specs.Weights.{Exact, Mirrored}
use Rattle.rules.specs.Meaning.{Sound}
use Rattle.rules.specs.Tests.{every, every_true}
use Rattle.rules.specs.BuiltIn.{rows, row_of, meaning_of_row, code_of}
use Rattle.rules.specs.declared.built_in.Row.{Row}
use Rattle.rules.specs.declared.built_in.BuiltIn.{BuiltIn}

equal_true : (a b : ℤ) → int_eq a b ≡ true → a ≡ b
equal_true a b = (Decides-int_eq a b).0

abbrev weight_at : Row → ℕ → ℤ
weight_at r s = slice_index_or r.weights s (pos 0)

abbrev absolute_sum : Row → ℤ
absolute_sum r = sum (suc r.span) (λ s. abs (weight_at r s))

abbrev none : Row
none = record { span = 0; denominator = 0; degree = 0; symmetric = false; ceiling = 0; weights = [] }

sizes_pass : Row → Bool
sizes_pass r =
    nat_le 1 r.span && (nat_le r.span 8 && (nat_le 1 r.denominator && (nat_le r.denominator (2 ^ 31) && nat_le r.degree 11)))

weights_pass : Row → Bool
weights_pass r =
    (length r.weights == 9) && every 9 (λ s. nat_le s r.span || int_eq (weight_at r s) (pos 0))

ceiling_passes : Row → Bool
ceiling_passes r = int_eq (absolute_sum r) (pos r.ceiling) && nat_le r.ceiling (2 ^ 40)

-- both sides of moment k: (k+1) · Σ W(s)·sᵏ and D · Lᵏ⁺¹
abbrev moment_left : Row → ℕ → ℤ
moment_left r k = pos (suc k) *ℤ sum (suc r.span) (λ s. weight_at r s *ℤ (pos s ^ℤ k))

abbrev moment_right : Row → ℕ → ℤ
moment_right r k = pos r.denominator *ℤ (pos r.span ^ℤ suc k)

moments_pass : Row → Bool
moments_pass r = every (suc r.degree) (λ k. int_eq (moment_left r k) (moment_right r k))

symmetry_passes : Row → Bool
symmetry_passes r =
    not r.symmetric || (r.degree % 2 == 1 && every (suc r.span) (λ s. int_eq (weight_at r s) (weight_at r (r.span - s))))

passes : Row → Bool
passes r = sizes_pass r && (weights_pass r && (ceiling_passes r && (moments_pass r && symmetry_passes r)))

-- the one test
table_passes : every 10 (λ i. passes (slice_index_or rows i none)) ≡ true
unfolding passes sizes_pass weights_pass ceiling_passes moments_pass symmetry_passes sum ◌^ℤ◌
table_passes = refl

row_index : (b : BuiltIn) → code_of b - 1 < 10
row_index b = grind arith

row_passes : (b : BuiltIn) → passes (row_of b) ≡ true
row_passes b = every_true 10 (λ i. passes (slice_index_or rows i none)) table_passes (code_of b - 1) (row_index b)

sound_sizes : (r : Row) → sizes_pass r ≡ true → (1 ≤ r.span) × (r.span ≤ 8) × (1 ≤ r.denominator) × (r.denominator ≤ 2 ^ 31) × (r.degree ≤ 11)
unfolding sizes_pass
sound_sizes r e =
    let a = and_parts (nat_le 1 r.span) _ e in
    let b = and_parts (nat_le r.span 8) _ a.1 in
    let c = and_parts (nat_le 1 r.denominator) _ b.1 in
    let d = and_parts (nat_le r.denominator (2 ^ 31)) _ c.1 in
    (leb-true _ _ a.0, leb-true _ _ b.0, leb-true _ _ c.0, leb-true _ _ d.0, leb-true _ _ d.1)

beyond_span : (r : Row) → weights_pass r ≡ true → (s : ℕ) → r.span < s → weight_at r s ≡ pos 0
unfolding weights_pass
beyond_span r e s h =
    let p = and_parts (length r.weights == 9) _ e in
    ⊎_elim (λ lt. within (every_true 9 (λ k. nat_le k r.span || int_eq (weight_at r k) (pos 0)) p.1 s lt))
    (λ ge. get_or_past r.weights s (pos 0) (omega (arith, eqb-true _ _ p.0)))
    (cases_lt s 9)
  where
    within : (nat_le s r.span || int_eq (weight_at r s) (pos 0)) ≡ true → weight_at r s ≡ pos 0
    within t =
        ⊎_elim (λ u. absurd (omega (arith, leb-true _ _ u))) (λ u. equal_true (weight_at r s) (pos 0) u)
        (or_cases (nat_le s r.span) _ t)

exact_row : (r : Row) → moments_pass r ≡ true → Exact r.span (weight_at r) r.denominator r.degree
unfolding moments_pass
exact_row r e k h =
    equal_true (moment_left r k) (moment_right r k)
    (every_true (suc r.degree) (λ i. int_eq (moment_left r i) (moment_right r i)) e k (omega arith))

symmetric_row : (r : Row) → symmetry_passes r ≡ true → r.symmetric ≡ true → Mirrored r.span (weight_at r) × (r.degree % 2 ≡ 1)
unfolding symmetry_passes
symmetric_row r e y =
    ⊎_elim (λ n. absurd (both_ways r.symmetric (not-true r.symmetric n) y))
    (λ t. let p = and_parts (r.degree % 2 == 1) _ t in
    (λ s h. equal_true (weight_at r s) (weight_at r (r.span - s)) (every_true (suc r.span) (λ i. int_eq (weight_at r i) (weight_at r (r.span - i))) p.1 s (omega arith)), eqb-true _ _ p.0))
    (or_cases (not r.symmetric) _ e)

-- the five tests that a row passes
parts : (r : Row) → passes r ≡ true → (sizes_pass r ≡ true) × (weights_pass r ≡ true) × (ceiling_passes r ≡ true) × (moments_pass r ≡ true) × (symmetry_passes r ≡ true)
unfolding passes
parts r e =
    let p = and_parts (sizes_pass r) _ e in
    let q = and_parts (weights_pass r) _ p.1 in
    let c = and_parts (ceiling_passes r) _ q.1 in
    let m = and_parts (moments_pass r) _ c.1 in
    (p.0, q.0, c.0, m.0, m.1)

ceiling_of_row : (r : Row) → ceiling_passes r ≡ true → (absolute_sum r ≡ pos r.ceiling) × (r.ceiling ≤ 2 ^ 40)
unfolding ceiling_passes
ceiling_of_row r e =
    let c = and_parts (int_eq (absolute_sum r) (pos r.ceiling)) _ e in
    (equal_true (absolute_sum r) (pos r.ceiling) c.0, leb-true _ _ c.1)

-- a row that passes keeps the promises of a rule
row_sound : (r : Row) → passes r ≡ true → Sound (meaning_of_row r)
row_sound r e =
    let p = parts r e in
    let n = sound_sizes r p.0 in
    let c = ceiling_of_row r p.2 in
    let is : unsigned_abs (absolute_sum r) ≡ r.ceiling = ap unsigned_abs c.0 in
    record {
      span = record { least = n.0; most = omega arith; stations = refl };
      denominator = record { least = n.2; most = n.3 };
      beyond = beyond_span r p.1;
      ceiling = record { bounded = at_most_in _ _ (omega (arith, ints, c.0, is)); most = omega (arith, is, c.1) };
      exact = record { most = n.4; exact = exact_row r p.3 };
      symmetry = record { mirrored = λ y. (symmetric_row r p.4 y).0; odd = λ y. (symmetric_row r p.4 y).1 };
    }

pub built_in_sound : (b : BuiltIn) → Sound (meaning_of_row (row_of b))
built_in_sound b = row_sound (row_of b) (row_passes b)

pub built_in_ceiling : (b : BuiltIn) → (row_of b).ceiling ≡ unsigned_abs (absolute_sum (row_of b))
built_in_ceiling b = sym (ap unsigned_abs (ceiling_of_row (row_of b) (parts (row_of b) (row_passes b)).2).0)
