-- Laws of powers.
use Rattle.std.proofs.Common.{◌≡◌, ℕ, zero, suc, [], ◌∷◌, ℤ, pos, ◌*ℤ◌, sym, refl, ap, ◌∙◌, ap₂, arith}
use Rattle.algebra.specs.Sums.{◌^ℤ◌}
use Rattle.algebra.proofs.Ring.{over, reads, identity}

-- the clauses of the power
pub pow_zero : (x : ℤ) → x ^ℤ 0 ≡ pos 1
unfolding ◌^ℤ◌
pow_zero x = refl

pub pow_suc : (x : ℤ) (n : ℕ) → x ^ℤ suc n ≡ x *ℤ (x ^ℤ n)
unfolding ◌^ℤ◌
pow_suc x n = refl

exchange : (a b c d : ℤ) → (a *ℤ b) *ℤ (c *ℤ d) ≡ (a *ℤ c) *ℤ (b *ℤ d)
exchange a b c d = over (a ∷ b ∷ c ∷ d ∷ []) (λ ρ p q r s. simp (p, q, r, s, reads) (identity ρ _ _ (omega arith)))

-- the power of a product
pub pow_product : (x y : ℤ) (n : ℕ) → (x *ℤ y) ^ℤ n ≡ (x ^ℤ n) *ℤ (y ^ℤ n)
pow_product x y zero = pow_zero (x *ℤ y) ∙ sym (ap₂ ◌*ℤ◌ (pow_zero x) (pow_zero y))
pow_product x y (suc n) =
    pow_suc (x *ℤ y) n
    ∙ ap (λ t. (x *ℤ y) *ℤ t) (pow_product x y n)
    ∙ exchange x y (x ^ℤ n) (y ^ℤ n)
    ∙ sym (ap₂ ◌*ℤ◌ (pow_suc x n) (pow_suc y n))
