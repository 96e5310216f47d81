-- ℤ as a commutative ring, as far as the library of the language does not have it.
use Rattle.std.proofs.Common.{◌≡◌, ℕ, suc, ◌+◌, ◌*◌, ℤ, pos, ◌+ℤ◌, ◌*ℤ◌, ap, zero-lt-suc, arith}
use native.Mathlib.Nat.{eq_of_mul-eq-mul_left}
use borrow.Author.Differences.{up, down, ints, same_in, sum_is_lem, product_is}

-- distributivity, associativity, one
pub *ℤ_distl : (a b c : ℤ) → a *ℤ (b +ℤ c) ≡ (a *ℤ b) +ℤ (a *ℤ c)
*ℤ_distl a b c = omega (arith, ints, ap (λ t. up a * t) (sum_is_lem b c), ap (λ t. down a * t) (sum_is_lem b c))

pub *ℤ_assoc : (a b c : ℤ) → (a *ℤ b) *ℤ c ≡ a *ℤ (b *ℤ c)
*ℤ_assoc a b c = omega (
  arith,
  ints,
  ap (λ t. t * up c) (product_is a b).0,
  ap (λ t. t * down c) (product_is a b).0,
  ap (λ t. t * up c) (product_is a b).1,
  ap (λ t. t * down c) (product_is a b).1,
  ap (λ t. up a * t) (product_is b c).0,
  ap (λ t. down a * t) (product_is b c).0,
  ap (λ t. up a * t) (product_is b c).1,
  ap (λ t. down a * t) (product_is b c).1,
)

pub *ℤ_idl : (a : ℤ) → pos 1 *ℤ a ≡ a
*ℤ_idl a = omega (arith, ints)

-- the middle two of four summands change places
pub +ℤ_exchange : (a b c d : ℤ) → (a +ℤ b) +ℤ (c +ℤ d) ≡ (a +ℤ c) +ℤ (b +ℤ d)
+ℤ_exchange a b c d = omega (arith, ints)

-- a positive factor cancels
pub *ℤ_cancel : (n : ℕ) (x y : ℤ) → pos (suc n) *ℤ x ≡ pos (suc n) *ℤ y → x ≡ y
*ℤ_cancel n x y e =
    let u : suc n * (up x + down y) ≡ suc n * (up y + down x) = omega (arith, product_is (pos (suc n)) x, product_is (pos (suc n)) y, ap up e, ap down e) in
    same_in x y (eq_of_mul-eq-mul_left (suc n) (zero-lt-suc n) (up x + down y) (up y + down x) u)
