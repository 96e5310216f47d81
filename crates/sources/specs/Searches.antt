-- Searches over the indices below a number.
use Rattle.std.specs.Prelude.{ℕ, zero, suc, Bool, cond, List, ℤ, pos, Some, None, Option, slice_index_or}

-- the number of index i in a list, 0 past its end
abbrev pub value_of : List ℤ → ℕ → ℤ
value_of values i = slice_index_or values i (pos 0)

-- the first answer if there is one, else the second
abbrev pub or_else : Option ℕ → Option ℕ → Option ℕ
or_else (Some i) o = Some i
or_else None o = o

-- the lowest index below n at which the test holds
abbrev pub first_where : ℕ → (ℕ → Bool) → Option ℕ
first_where zero test = None
first_where (suc n) test = or_else (first_where n test) (cond (test n) (Some n) None)

-- the value of the highest index below n at which the test holds
abbrev pub last_value : ℕ → (ℕ → Bool) → (ℕ → ℤ) → Option ℤ
last_value zero test value = None
last_value (suc n) test value = cond (test n) (Some (value n)) (last_value n test value)
