-- The ledger that a person would keep of a run: it is fed the calls and what the rule tells.
use Rattle.std.specs.Prelude.{ℕ, Bool, true, false, cond, not, ◌&&◌, ℤ, is_some, Some, None, Option, Result, nat_lt}
use Rattle.rules.specs.Meaning.{Meaning}
use Rattle.rules.specs.declared.fault.Cause.TheVariants.{ReadingRange, ToleranceRange, StationBeyondSpan, Published, NothingToStrike}
use Rattle.rules.specs.declared.fault.Fault.{Fault}
use Rattle.rules.specs.declared.fault.Origin.TheVariants.{Run}
use Rattle.sources.specs.Readings.{Readings, is_in_range}
use Rattle.runs.specs.declared.estimate.Estimate.{Estimate}
use Rattle.runs.specs.Changes.{nothing, with_value, without_value, with_tolerance, with_source}
use Rattle.runs.specs.Totals.{lowest_empty, sum_of, fault_at, empty_station, given}

-- what is held, and whether it is published
pub record Ledger : Type 0 where
  pub readings : Readings
  pub published : Bool

-- before any call
abbrev pub blank : Ledger
blank = record { readings = nothing; published = false }

-- a call, with its arguments
pub data Entry : Type 0 where
  entering : (station : ℕ) (value : ℤ) → Entry
  striking : (station : ℕ) → Entry
  declaring : (tolerance : ℕ) → Entry
  loading : (source : Readings) → Entry
  publishing : Entry
  asking : Entry

-- all calls but the one for the result would change a run
abbrev pub changes : Entry → Bool
changes (entering s v) = true
changes (striking s) = true
changes (declaring e) = true
changes (loading source) = true
changes publishing = true
changes asking = false

-- the checks of a call that publication does not bar, in their order: the fault of the first that fails
abbrev pub own_refusal : Meaning → Readings → Entry → Option Fault
own_refusal m r (entering s v) =
    cond (nat_lt m.span s) (Some (fault_at StationBeyondSpan s))
    (cond (not (is_in_range v)) (Some (fault_at ReadingRange s))
    None)
own_refusal m r (striking s) =
    cond (nat_lt m.span s) (Some (fault_at StationBeyondSpan s))
    (cond (not (is_some (r.reading s))) (Some (fault_at NothingToStrike s))
    None)
own_refusal m r (declaring e) = cond (nat_lt 1048576 e) (Some (fault_at ToleranceRange 0)) None
own_refusal m r (loading source) = None
own_refusal m r publishing = empty_station Run (lowest_empty m.weighting r)
own_refusal m r asking = empty_station Run (lowest_empty m.weighting r)

-- a published run refuses a change before all else
abbrev pub already_published : Fault
already_published = fault_at Published 0

-- the fault of the first check that fails
abbrev pub refusal : Meaning → Ledger → Entry → Option Fault
refusal m l e = cond (changes e && l.published) (Some already_published) (own_refusal m l.readings e)

-- what an accepted call makes of the ledger
abbrev pub changed : Meaning → Ledger → Entry → Ledger
changed m l (entering s v) = record { readings = with_value s v l.readings; published = l.published }
changed m l (striking s) = record { readings = without_value s l.readings; published = l.published }
changed m l (declaring e) = record { readings = with_tolerance e l.readings; published = l.published }
changed m l (loading source) = record { readings = with_source m.span source l.readings; published = l.published }
changed m l publishing = record { readings = l.readings; published = true }
changed m l asking = l

-- a refused call changes nothing
abbrev pub unless_refused : Option Fault → Ledger → Ledger → Ledger
unless_refused (Some f) before after = before
unless_refused None before after = after

-- the ledger after a call
abbrev pub step : Meaning → Ledger → Entry → Ledger
step m l e = unless_refused (refusal m l e) l (changed m l e)

-- the answer to a change
abbrev pub outcome : Meaning → Ledger → Entry → Result (Unit {0}) Fault
outcome m l e = given (refusal m l e) tt

-- both, for a call that publication does not bar
abbrev pub own_step : Meaning → Ledger → Entry → Ledger
own_step m l e = unless_refused (own_refusal m l.readings e) l (changed m l e)

abbrev pub own_outcome : Meaning → Ledger → Entry → Result (Unit {0}) Fault
own_outcome m l e = given (own_refusal m l.readings e) tt

-- the integral of the readings is their weighted sum over the denominator; with it go its radius and the degree of the rule
abbrev pub estimate_of : Meaning → Readings → Estimate
estimate_of m r = record {
  value = (sum_of m.weighting r).value;
  radius = (sum_of m.weighting r).radius;
  degree = m.degree;
}

-- the result of the readings, or the station that it lacks
abbrev pub result_of : Meaning → Readings → Result Estimate Fault
result_of m r = given (own_refusal m r asking) (estimate_of m r)

-- what an accepted call tells: the result where that is asked for
abbrev pub accepted_reply : Meaning → Ledger → Entry → Option Estimate
accepted_reply m l (entering s v) = None
accepted_reply m l (striking s) = None
accepted_reply m l (declaring e) = None
accepted_reply m l (loading source) = None
accepted_reply m l publishing = None
accepted_reply m l asking = Some (estimate_of m l.readings)

-- the reply to a call
abbrev pub answer : Meaning → Ledger → Entry → Result (Option Estimate) Fault
answer m l e = given (refusal m l e) (accepted_reply m l e)
