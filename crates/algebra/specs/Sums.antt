-- Finite sums, powers and absolute values of integers.
use Rattle.std.specs.Prelude.{ℕ, zero, suc, ℤ, pos, ◌+ℤ◌, ◌*ℤ◌, unsigned_abs}

-- the sum of f(0), f(1), .. f(n-1)
unfoldable pub sum : ℕ → (ℕ → ℤ) → ℤ
sum zero f = pos 0
sum (suc n) f = sum n f +ℤ f n

-- x to the power n; the power 0 is 1, that of 0 too
infixr 8 ◌^ℤ◌
unfoldable pub ◌^ℤ◌ : ℤ → ℕ → ℤ
x ^ℤ zero = pos 1
x ^ℤ suc n = x *ℤ (x ^ℤ n)

-- the absolute value
abbrev pub abs : ℤ → ℤ
abs x = pos (unsigned_abs x)
