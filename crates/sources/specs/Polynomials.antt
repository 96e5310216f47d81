-- What a polynomial of at most 12 whole coefficients tells, lowest power first.
use Rattle.std.specs.Prelude.{ℕ, cond, ◌&&◌, List, length, ℤ, pos, ◌*ℤ◌, is_ok, Some, None, Ok, Option, Result, nat_le, nat_lt}
use Rattle.algebra.specs.Sums.{sum, ◌^ℤ◌}
use Rattle.rules.specs.declared.fault.Fault.{Fault}
use Rattle.rules.specs.declared.fault.Cause.TheVariants.{CoefficientCount, ReadingRange}
use Rattle.sources.specs.Readings.{Readings, is_in_range}
use Rattle.sources.specs.Refusals.{out_of_range, refused, refused_at}
use Rattle.sources.specs.Searches.{value_of, first_where}
use Rattle.sources.specs.declared.polynomial.Polynomial.{Polynomial}

-- the coefficient of each power
abbrev pub coefficient_of : Polynomial → ℕ → ℤ
coefficient_of p = value_of p.coefficients

-- the polynomial zero
abbrev pub zero_coefficient : ℕ → ℤ
zero_coefficient i = pos 0

-- the value at x = s of the polynomial with the coefficient a(i) of the power i
abbrev pub polynomial_value : (ℕ → ℤ) → ℕ → ℤ
polynomial_value a s = sum 12 (λ i. a i *ℤ (pos s ^ℤ i))

-- the value is the reading where it is one; none above station 1,024
abbrev pub polynomial_at : (ℕ → ℤ) → ℕ → Option ℤ
polynomial_at a s = cond (nat_le s 1024 && is_in_range (polynomial_value a s)) (Some (polynomial_value a s)) None

abbrev pub read_off : Polynomial → Readings
read_off p = record { reading = polynomial_at (coefficient_of p); tolerance = 0 }

-- the reply to new coefficients: the first check that fails
abbrev pub set_reply : List ℤ → Result (Unit {0}) Fault
set_reply cs =
    cond (nat_lt 12 (length cs)) (refused CoefficientCount 0)
    (refused_at ReadingRange (first_where (length cs) (out_of_range (value_of cs))) (Ok tt))

-- the coefficients after the call: the new ones, 0 beyond their list, or where it is refused the old ones
abbrev pub set_coefficient : List ℤ → (ℕ → ℤ) → ℕ → ℤ
set_coefficient cs a = cond (is_ok (set_reply cs)) (value_of cs) a
