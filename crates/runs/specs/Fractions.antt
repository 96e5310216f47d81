-- Fractions of whole numbers, and their order by cross products.
use Rattle.std.specs.Prelude.{ℕ, ◌≤◌, Bool, ℤ, pos, ◌*ℤ◌, ◌≤ℤ◌, int_lt}

pub record Fraction : Type 0 where
  pub numerator : ℤ
  pub denominator : ℕ

-- a fraction stands for a number where its denominator is positive
abbrev pub Proper : Fraction → Type 0
Proper x = 1 ≤ x.denominator

abbrev pub below : Fraction → Fraction → Bool
below x y = int_lt (x.numerator *ℤ pos y.denominator) (y.numerator *ℤ pos x.denominator)

abbrev pub at_most : Fraction → Fraction → Type 0
at_most x y = (x.numerator *ℤ pos y.denominator) ≤ℤ (y.numerator *ℤ pos x.denominator)
