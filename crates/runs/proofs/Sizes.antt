-- How large a weighted sum of readings may be.
use Rattle.std.proofs.Common.{◌≡◌, ℕ, ◌*◌, ◌^◌, ◌<◌, ◌≤◌, ℤ, pos, ◌*ℤ◌, nat_abs, ◌≤ℤ◌, Some, None, Option, sym, refl, ap, mul-le-mul, arith}
use lib.IntN.{*ℤ_comm}
use borrow.Author.Differences.{ints, le_out}
use Rattle.std.proofs.lemmas.Int.{unsigned_abs-mul}
use Rattle.algebra.specs.Sums.{sum, abs}
use Rattle.algebra.proofs.Sums.{sum_scale}
use Rattle.algebra.proofs.Absolute.{◌≤∙◌, ≤ℤ_of_eq, ≤ℤ_scale, abs_mul, abs_sum, sum_le, sum_abs_more}
use Rattle.rules.specs.Meaning.{Meaning, Sound}
use Rattle.sources.specs.Readings.{Readings, SoundReadings}
use Rattle.runs.specs.Totals.{value_of}

-- a product is as large as the product of the sizes
pub product_bound : (a b : ℕ) (x y : ℤ) → nat_abs x ≤ a → nat_abs y ≤ b → nat_abs (x *ℤ y) ≤ a * b
product_bound a b x y h k = rw (unsigned_abs-mul x y) (mul-le-mul h k)

pub value_bound : (o : Option ℤ) → ((v : ℤ) → o ≡ Some v → nat_abs v ≤ 1048576) → nat_abs (value_of o) ≤ 1048576
value_bound (Some v) h = h v refl
value_bound None h = omega arith

-- the sum of the absolute weights of some stations
pub size_bound : (m : Meaning) → Sound m → (n : ℕ) → n ≤ m.weighting.stations → nat_abs (sum n (λ s. abs (m.weighting.weight s))) ≤ 2 ^ 40
size_bound m h n l =
    let W = m.weighting.weight in
    let total : abs (sum n (λ s. abs (W s))) ≤ℤ pos m.weighting.ceiling = abs_sum n (λ s. abs (W s)) ≤∙ (sum_abs_more n m.weighting.stations W l ≤∙ h.ceiling.bounded) in
    omega (arith, le_out _ _ total, h.ceiling.most)

-- the weighted sum of some stations
pub sum_bound : (m : Meaning) (r : Readings) → Sound m → SoundReadings r → (n : ℕ) → n ≤ m.weighting.stations → nat_abs (sum n (λ s. m.weighting.weight s *ℤ value_of (r.reading s))) ≤ 2 ^ 60
sum_bound m r h k n l =
    let W = m.weighting.weight in
    let f : ℕ → ℤ = λ s. W s *ℤ value_of (r.reading s) in
    let term : (s : ℕ) → s < n → abs (f s) ≤ℤ (pos 1048576 *ℤ abs (W s)) = (λ s _. term_bound (W s) (value_of (r.reading s)) (value_bound (r.reading s) (k.readings s))) in
    let all : abs (sum n f) ≤ℤ (pos 1048576 *ℤ sum n (λ s. abs (W s))) =
    abs_sum n f ≤∙ sum_le n (λ s. abs (f s)) (λ s. pos 1048576 *ℤ abs (W s)) term ≤∙ ≤ℤ_of_eq (sym (sum_scale (pos 1048576) n (λ s. abs (W s)))) in
    omega (arith, ints, le_out _ _ all, size_bound m h n l)
  where
    term_bound : (w v : ℤ) → nat_abs v ≤ 1048576 → abs (w *ℤ v) ≤ℤ (pos 1048576 *ℤ abs w)
    term_bound w v b = ≤ℤ_of_eq (abs_mul w v) ≤∙ (≤ℤ_scale (nat_abs w) (in_order b) ≤∙ ≤ℤ_of_eq (*ℤ_comm (abs w) (pos 1048576)))
      where
        in_order : nat_abs v ≤ 1048576 → abs v ≤ℤ pos 1048576
        in_order l = omega (arith, ints)

-- the radius that the absolute weights of some stations give
pub radius_bound : (m : Meaning) (r : Readings) → Sound m → SoundReadings r → (n t : ℕ) (size : ℤ) → n ≤ m.weighting.stations → t ≡ r.tolerance → size ≡ sum n (λ s. abs (m.weighting.weight s)) → nat_abs (pos t *ℤ size) ≤ 2 ^ 60
radius_bound m r h k n t size l et es =
    product_bound (2 ^ 20) (2 ^ 40) (pos t) size (omega (arith, k.tolerance)) (omega (arith, ap nat_abs es, size_bound m h n l))
