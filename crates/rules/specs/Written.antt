-- Written rules: which lists of weights are accepted, and what an accepted one tells.
use Rattle.std.specs.Prelude.{ℕ, zero, suc, ◌-◌, ◌%◌, Bool, true, cond, ◌&&◌, ◌||◌, List, [], ◌∷◌, length, ℤ, pos, ◌*ℤ◌, Some, None, Ok, Err, Option, Result, ◌==◌, nat_lt, slice_index_or, sum_by, unsigned_abs}
use Rattle.std.specs.Option.{option_or}
use Rattle.std.specs.Ordering.{int_eq}
use Rattle.algebra.specs.Sums.{sum, ◌^ℤ◌}
use Rattle.rules.specs.Meaning.{Meaning, telling}
use Rattle.rules.specs.Tables.{told}
use Rattle.rules.specs.Tests.{every}
use Rattle.rules.specs.declared.written.Written.{Written}
use Rattle.rules.specs.declared.fault.Fault.{Fault}
use Rattle.rules.specs.declared.fault.Cause.{Cause}
use Rattle.rules.specs.declared.fault.Cause.TheVariants.{ListLength, DenominatorRange, WeightSum, WrittenDegree, NotExact}
use Rattle.rules.specs.declared.fault.Origin.TheVariants.{Rule}

-- the lowest number below n at which the test fails
abbrev pub first_failing : ℕ → (ℕ → Bool) → Option ℕ
first_failing zero p = None
first_failing (suc n) p = option_or (first_failing n p) (cond (p n) None (Some n))

-- the weight that a list has at a station, 0 past its end
abbrev pub weight_in : List ℤ → ℕ → ℤ
weight_in ws s = slice_index_or ws s (pos 0)

-- the last station that a list has a weight for
abbrev pub last_station : List ℤ → ℕ
last_station ws = length ws - 1

-- the sum of the absolute weights
abbrev pub absolute_sum : List ℤ → ℕ
absolute_sum ws = sum_by unsigned_abs ws

-- Σ W(s)·sᵏ
abbrev pub moment_of : List ℤ → ℕ → ℤ
moment_of ws k = sum (length ws) (λ s. weight_in ws s *ℤ (pos s ^ℤ k))

-- whether power k is integrated exactly over the stations 0 to L: (k+1) · Σ W(s)·sᵏ = D · Lᵏ⁺¹
abbrev pub integrates : List ℤ → ℕ → ℕ → Bool
integrates ws D k = int_eq (pos (suc k) *ℤ moment_of ws k) (pos D *ℤ (pos (last_station ws) ^ℤ suc k))

-- whether W(s) = W(L−s) at each station
abbrev pub reads_same : List ℤ → Bool
reads_same ws = every (length ws) (λ s. int_eq (weight_in ws s) (weight_in ws (last_station ws - s)))

-- a symmetric rule that is exact to an even degree is exact to the next one too
abbrev pub degree_told : Bool → ℕ → ℕ
degree_told symmetric d = cond (symmetric && d % 2 == 0) (suc d) d

-- what an accepted list tells
abbrev pub accepted : List ℤ → ℕ → ℕ → Meaning
accepted ws D d =
    telling (last_station ws) D (degree_told (reads_same ws) d) (reads_same ws) (absolute_sum ws) (weight_in ws)

-- a refusal of a list of weights, from RULE
abbrev pub refused : Cause → ℕ → Result Meaning Fault
refused c k = Err (record { cause = c; layer = Rule; place = k })

-- accepted unless some power fails, which is then the place of the refusal
abbrev pub unless_failing : Option ℕ → Meaning → Result Meaning Fault
unless_failing None m = Ok m
unless_failing (Some k) m = refused NotExact k

-- what a list of weights with a denominator D and a degree d gives: the first check that fails refuses it
abbrev pub loading : List ℤ → ℕ → ℕ → Result Meaning Fault
loading ws D d =
    cond (nat_lt (length ws) 2 || nat_lt 17 (length ws)) (refused ListLength 0)
    (cond (D == 0 || nat_lt 1048576 D) (refused DenominatorRange 0)
    (cond (nat_lt 9 d) (refused WrittenDegree 0)
    (cond (nat_lt 1048576 (absolute_sum ws)) (refused WeightSum 0)
    (unless_failing (first_failing (suc d) (integrates ws D)) (accepted ws D d)))))

-- a result with a function of what it holds
abbrev pub mapped : {A B E : Type 0} → (A → B) → Result A E → Result B E
mapped f (Ok a) = Ok (f a)
mapped f (Err e) = Err e

-- what a written rule tells
abbrev pub held : Written → Meaning
held w = told w.table

-- the reply to a load, and what the rule tells after it: a refused load leaves it as it was
abbrev pub reply : Result Meaning Fault → Result (Unit {0}) Fault
reply r = mapped (λ _. tt) r

abbrev pub held_after : Result Meaning Fault → Meaning → Meaning
held_after (Ok m) before = m
held_after (Err e) before = before

-- the rule that is held before any is loaded
abbrev pub trapezoid : Meaning
trapezoid = telling 1 2 1 true 2 (weight_in (pos 1 ∷ pos 1 ∷ []))
