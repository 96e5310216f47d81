-- Which float is which whole number.
use Rattle.std.specs.Prelude.{ℕ, ◌*◌, ◌/◌, ◌%◌, Bool, true, false, cond, ◌&&◌, ℤ, pos, neg_ℤ, Some, None, Option, ◌==◌, nat_le, Float}
use Rattle.std.specs.Float.{nan, inf, fin}
use Rattle.std.specs.Float.Ieee.{up, down}

-- the number of the size n, negative where the sign is set; minus zero is 0
abbrev pub with_sign : Bool → ℕ → ℤ
with_sign false n = pos n
with_sign true n = neg_ℤ (pos n)

-- The whole number that a float is equal to, where there is one and it is a reading. `fin s m e` is m * 2 ^ e with the sign s, and 2 ^ e is the fraction up e / down e.
abbrev pub whole_reading : Float → Option ℤ
whole_reading nan = None
whole_reading (inf s) = None
whole_reading (fin s m e) =
    cond (m * up e % down e == 0 && nat_le (m * up e / down e) 1048576) (Some (with_sign s (m * up e / down e))) None
