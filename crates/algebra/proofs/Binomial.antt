-- Binomial coefficients and the binomial theorem.
use Rattle.std.proofs.Common.{◌≡◌, ℕ, zero, suc, ◌+◌, ◌-◌, ◌*◌, ◌<◌, [], ◌∷◌, ℤ, pos, ◌+ℤ◌, ◌*ℤ◌, sym, refl, ap, ◌∙◌, ap₂, arith}
use native.Mathlib.Nat.{suc-sub-suc}
use lib.IntN.{zero-*ℤ, +ℤ_assoc, +ℤ_idr}
use Rattle.algebra.specs.Sums.{sum, ◌^ℤ◌}
use Rattle.algebra.proofs.Ring.{over, reads, identity}
use Rattle.algebra.proofs.Powers.{pow_zero, pow_suc}
use Rattle.algebra.proofs.Sums.{sum_none, sum_more, sum_cong, sum_add, sum_scale, sum_first}

-- Pascal's triangle
abbrev pub choose : ℕ → ℕ → ℕ
choose n zero = 1
choose zero (suc i) = 0
choose (suc n) (suc i) = choose n i + choose n (suc i)

-- no choice of more than there are, and one choice of all
choose_above : (n i : ℕ) → n < i → choose n i ≡ 0
choose_above n zero h = absurd (omega arith)
choose_above zero (suc i) h = refl
choose_above (suc n) (suc i) h = omega (arith, choose_above n i (omega arith), choose_above n (suc i) (omega arith))

pub choose_all : (n : ℕ) → choose n n ≡ 1
choose_all zero = refl
choose_all (suc n) = omega (arith, choose_all n, choose_above n (suc n) (omega arith))

-- (k+1)·C(k,i) = (i+1)·C(k+1,i+1)
pub absorption : (k i : ℕ) → suc k * choose k i ≡ suc i * choose (suc k) (suc i)
absorption zero zero = refl
absorption zero (suc i) = omega arith
absorption (suc k) zero = omega (arith, absorption k 0)
absorption (suc k) (suc i) = omega (arith, absorption k i, absorption k (suc i))

abbrev pub binomial_term : ℤ → ℤ → ℕ → ℕ → ℤ
binomial_term x y n i = pos (choose n i) *ℤ ((x ^ℤ i) *ℤ (y ^ℤ (n - i)))

-- the steps of the induction
outer : (x y s : ℤ) → (x +ℤ y) *ℤ s ≡ (y *ℤ s) +ℤ (x *ℤ s)
outer x y s = over (x ∷ y ∷ s ∷ []) (λ ρ p q r. simp (p, q, r, reads) (identity ρ _ _ (omega arith)))

pascal : (c d x a b : ℤ) → (c +ℤ d) *ℤ ((x *ℤ a) *ℤ b) ≡ (d *ℤ ((x *ℤ a) *ℤ b)) +ℤ (x *ℤ (c *ℤ (a *ℤ b)))
pascal c d x a b = over (c ∷ d ∷ x ∷ a ∷ b ∷ []) (λ ρ p q r s t. simp (p, q, r, s, t, reads) (identity ρ _ _ (omega arith)))

inner : (y c a b : ℤ) → y *ℤ (c *ℤ (a *ℤ b)) ≡ c *ℤ (a *ℤ (y *ℤ b))
inner y c a b = over (y ∷ c ∷ a ∷ b ∷ []) (λ ρ p q r s. simp (p, q, r, s, reads) (identity ρ _ _ (omega arith)))

-- (x + y)ⁿ = Σ C(n,i)·xⁱ·yⁿ⁻ⁱ
pub binomial : (x y : ℤ) (n : ℕ) → (x +ℤ y) ^ℤ n ≡ sum (suc n) (binomial_term x y n)
binomial x y zero =
    pow_zero (x +ℤ y)
    ∙ sym (sum_more 0 (binomial_term x y 0) ∙ ap₂ ◌+ℤ◌ (sum_none (binomial_term x y 0)) (ap₂ (λ a b. pos 1 *ℤ (a *ℤ b)) (pow_zero x) (pow_zero y)))
binomial x y (suc n) =
    pow_suc (x +ℤ y) n
    ∙ ap (λ t. (x +ℤ y) *ℤ t) (binomial x y n)
    ∙ outer x y (sum (suc n) (binomial_term x y n))
    ∙ ap₂ ◌+ℤ◌ (sum_scale y (suc n) (binomial_term x y n) ∙ sum_cong (suc n) (λ i. y *ℤ binomial_term x y n i) lower raised ∙ extended) (sum_scale x (suc n) (binomial_term x y n))
    ∙ +ℤ_assoc (lower 0) (sum (suc n) (λ i. lower (suc i))) (sum (suc n) (λ i. x *ℤ binomial_term x y n i))
    ∙ ap (λ t. lower 0 +ℤ t) (sym (sum_add (suc n) (λ i. lower (suc i)) (λ i. x *ℤ binomial_term x y n i)) ∙ sum_cong (suc n) (λ i. lower (suc i) +ℤ (x *ℤ binomial_term x y n i)) (λ i. binomial_term x y (suc n) (suc i)) joined)
    ∙ sym (sum_first (suc n) (binomial_term x y (suc n)))
  where
    lower : ℕ → ℤ
    lower i = pos (choose n i) *ℤ ((x ^ℤ i) *ℤ (y ^ℤ (suc n - i)))

    raised : (i : ℕ) → i < suc n → y *ℤ binomial_term x y n i ≡ lower i
    raised i h =
        inner y (pos (choose n i)) (x ^ℤ i) (y ^ℤ (n - i))
        ∙ ap (λ t. pos (choose n i) *ℤ ((x ^ℤ i) *ℤ t)) (sym (pow_suc y (n - i)) ∙ ap (λ t. y ^ℤ t) (omega arith))

    extended : sum (suc n) lower ≡ lower 0 +ℤ sum (suc n) (λ i. lower (suc i))
    extended =
        sym (sum_more (suc n) lower ∙ ap (λ t. sum (suc n) lower +ℤ t) (ap (λ c. pos c *ℤ ((x ^ℤ suc n) *ℤ (y ^ℤ (suc n - suc n)))) (choose_above n (suc n) (omega arith)) ∙ zero-*ℤ ((x ^ℤ suc n) *ℤ (y ^ℤ (suc n - suc n)))) ∙ +ℤ_idr (sum (suc n) lower))
        ∙ sum_first (suc n) lower

    joined : (i : ℕ) → i < suc n → lower (suc i) +ℤ (x *ℤ binomial_term x y n i) ≡ binomial_term x y (suc n) (suc i)
    joined i h =
        ap₂ (λ u m. (pos (choose n (suc i)) *ℤ (u *ℤ (y ^ℤ m))) +ℤ (x *ℤ binomial_term x y n i)) (pow_suc x i) (suc-sub-suc n i)
        ∙ sym (pascal (pos (choose n i)) (pos (choose n (suc i))) x (x ^ℤ i) (y ^ℤ (n - i)))
        ∙ sym (ap₂ (λ u m. pos (choose (suc n) (suc i)) *ℤ (u *ℤ (y ^ℤ m))) (pow_suc x i) (suc-sub-suc n i))
