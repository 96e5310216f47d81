-- Weighted sums of readings.
use Rattle.std.specs.Prelude.{ℕ, Bool, false, not, ℤ, pos, ◌*ℤ◌, Some, None, Ok, Err, Option, Result, ◌==◌, unsigned_abs}
use Rattle.algebra.specs.Sums.{sum, abs}
use Rattle.rules.specs.Meaning.{Meaning, Weighting}
use Rattle.rules.specs.declared.fault.Cause.{Cause}
use Rattle.rules.specs.declared.fault.Cause.TheVariants.{EmptyStation}
use Rattle.rules.specs.declared.fault.Fault.{Fault}
use Rattle.rules.specs.declared.fault.Origin.{Origin}
use Rattle.rules.specs.declared.fault.Origin.TheVariants.{Run}
use Rattle.sources.specs.Readings.{Readings}
use Rattle.sources.specs.Searches.{first_where}
use Rattle.runs.specs.declared.band.Band.{Band}

-- the reading that there is, 0 where there is none
abbrev pub value_of : Option ℤ → ℤ
value_of (Some v) = v
value_of None = pos 0

-- a weight other than 0 with no reading
abbrev pub lacks : ℤ → Option ℤ → Bool
lacks w (Some v) = false
lacks w None = not (unsigned_abs w == 0)

-- the lowest station of nonzero weight that has no reading
abbrev pub lowest_empty : Weighting → Readings → Option ℕ
lowest_empty w r = first_where w.stations (λ s. lacks (w.weight s) (r.reading s))

-- Σ W(s)·v(s)
abbrev pub weighted_sum : Weighting → Readings → ℤ
weighted_sum w r = sum w.stations (λ s. w.weight s *ℤ value_of (r.reading s))

-- Σ |W(s)|
abbrev pub absolute_sum : Weighting → ℤ
absolute_sum w = sum w.stations (λ s. abs (w.weight s))

-- the sum over the denominator; each reading may be off by the tolerance, so the sum may be off by the tolerance times Σ |W(s)|
abbrev pub sum_of : Weighting → Readings → Band
sum_of w r = record {
  value = (weighted_sum w r, w.denominator);
  radius = pos r.tolerance *ℤ absolute_sum w;
}

-- the fault of a run
abbrev pub fault_at : Cause → ℕ → Fault
fault_at c p = record { cause = c; layer = Run; place = p }

-- 21 at the station that is found
abbrev pub empty_station : Origin → Option ℕ → Option Fault
empty_station o (Some s) = Some (record { cause = EmptyStation; layer = o; place = s })
empty_station o None = None

-- refused where there is a fault, else the answer
abbrev pub given : {A : Type 0} → Option Fault → A → Result A Fault
given (Some f) a = Err f
given None a = Ok a

abbrev pub total_of : Meaning → Readings → Result Band Fault
total_of m r = given (empty_station Run (lowest_empty m.weighting r)) (sum_of m.weighting r)
