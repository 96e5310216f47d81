-- Polynomials, what it means that one fits readings, and their integrals.
use Rattle.std.specs.Prelude.{◌≡◌, ℕ, zero, suc, ◌+◌, ◌*◌, ◌≤◌, List, length, ℤ, pos, ◌+ℤ◌, ◌-ℤ◌, ◌*ℤ◌, ◌≤ℤ◌, Some, slice_index_or}
use Rattle.algebra.specs.Sums.{abs, sum, ◌^ℤ◌}
use Rattle.sources.specs.Readings.{Readings}
use Rattle.runs.specs.Fractions.{Fraction}

-- (a₀ + a₁·x + a₂·x² + ..) / q, by its whole coefficients a₀, a₁, .. and its denominator q
pub record Polynomial : Type 0 where
  pub coefficients : List ℤ
  pub denominator : ℕ

-- of at most degree d: at most d + 1 coefficients, over a denominator of at least 1
pub record OfDegree (d : ℕ) (p : Polynomial) : Type 0 where
  pub few : length p.coefficients ≤ d + 1
  pub proper : 1 ≤ p.denominator

abbrev pub coefficient : Polynomial → ℕ → ℤ
coefficient p i = slice_index_or p.coefficients i (pos 0)

-- Σ aᵢ·sⁱ, which is q times the value at s
abbrev pub numerator_at : Polynomial → ℕ → ℤ
numerator_at p s = sum (length p.coefficients) (λ i. coefficient p i *ℤ (pos s ^ℤ i))

-- within e of the reading v at s: |q·v − Σ aᵢ·sⁱ| ≤ q·e
abbrev pub Within : Polynomial → (station : ℕ) (value : ℤ) (tolerance : ℕ) → Type 0
Within p s v e = abs ((pos p.denominator *ℤ v) -ℤ numerator_at p s) ≤ℤ (pos p.denominator *ℤ pos e)

-- the tolerance of the reading at a station
abbrev pub tolerance_at : Readings → ℕ → ℕ
tolerance_at r s = r.tolerance

-- within the tolerance of each reading, those at stations of weight 0 too
abbrev pub Fits : Polynomial → Readings → Type 0
Fits p r = (s : ℕ) (v : ℤ) → r.reading s ≡ Some v → Within p s v (tolerance_at r s)

-- the sum of two fractions
abbrev pub plus : Fraction → Fraction → Fraction
plus x y = record {
  numerator = (x.numerator *ℤ pos y.denominator) +ℤ (y.numerator *ℤ pos x.denominator);
  denominator = x.denominator * y.denominator;
}

-- Σ aᵢ·Lⁱ⁺¹/(i+1) for i below n
unfoldable pub power_integrals : (ℕ → ℤ) → (L n : ℕ) → Fraction
power_integrals a L zero = record { numerator = pos 0; denominator = 1 }
power_integrals a L (suc n) =
    plus (power_integrals a L n) (record { numerator = a n *ℤ (pos L ^ℤ suc n); denominator = suc n })

-- the integral from 0 to L: Σ aᵢ·Lⁱ⁺¹/(i+1), over q
abbrev pub integral : Polynomial → ℕ → Fraction
integral p L = record {
  numerator = (power_integrals (coefficient p) L (length p.coefficients)).numerator;
  denominator = (power_integrals (coefficient p) L (length p.coefficients)).denominator * p.denominator;
}
