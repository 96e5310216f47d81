-- The greatest common divisor of a denominator and a row of weights.
use Rattle.std.specs.Prelude.{ℕ, zero, suc, ◌%◌, ◌<◌, ℤ, unsigned_abs}
use Rattle.std.specs.Int.{◌∣◌}

-- at most n of Euclid's steps
unfoldable pub gcd_within : ℕ → ℕ → ℕ → ℕ
gcd_within zero a b = a
gcd_within (suc n) a zero = a
gcd_within (suc n) a (suc b) = gcd_within n (suc b) (a % suc b)

-- the greatest common divisor of a and b; that of a and 0 is a
unfoldable pub gcd : ℕ → ℕ → ℕ
gcd a b = gcd_within b a b

-- the greatest common divisor of D and of W(0), .. W(n-1)
abbrev pub common_divisor : (D n : ℕ) → (ℕ → ℤ) → ℕ
common_divisor D zero W = D
common_divisor D (suc n) W = gcd (common_divisor D n W) (unsigned_abs (W n))

-- g divides D and W(0), .. W(n-1), and all that divides them divides g
pub record Greatest (D n : ℕ) (W : ℕ → ℤ) (g : ℕ) : Type 0 where
  pub divides : g ∣ D
  pub divides_weights : (s : ℕ) → s < n → g ∣ unsigned_abs (W s)
  pub greatest : (c : ℕ) → c ∣ D → ((s : ℕ) → s < n → c ∣ unsigned_abs (W s)) → c ∣ g
