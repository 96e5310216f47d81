-- The bands of results, and the verdict on two runs.
use Rattle.std.specs.Prelude.{◌≡◌, ◌^◌, ◌≤◌, Bool, cond, not, ◌||◌, ◌+ℤ◌, ◌-ℤ◌, Some, None, Ok, Option, Result, ◌==◌, unsigned_abs}
use Rattle.rules.specs.Meaning.{Meaning}
use Rattle.rules.specs.declared.fault.Cause.TheVariants.{SpansDiffer}
use Rattle.rules.specs.declared.fault.Fault.{Fault}
use Rattle.rules.specs.declared.fault.Origin.TheVariants.{Run, Other}
use Rattle.runs.specs.declared.estimate.Estimate.{Estimate}
use Rattle.runs.specs.declared.verdict.Verdict.{Verdict}
use Rattle.runs.specs.declared.verdict.Verdict.TheVariants.{Apart, Meet}
use Rattle.runs.specs.Fractions.{Fraction, Proper, below, at_most}
use Rattle.runs.specs.Ledger.{Ledger, estimate_of, result_of}
use Rattle.runs.specs.Totals.{lowest_empty, fault_at, empty_station, given}

-- the closed band of a result goes from its value less the radius to its value and the radius
abbrev pub low_end : Estimate → Fraction
low_end e = record { numerator = e.value.0 -ℤ e.radius; denominator = e.value.1 }

abbrev pub high_end : Estimate → Fraction
high_end e = record { numerator = e.value.0 +ℤ e.radius; denominator = e.value.1 }

abbrev pub inside : Fraction → Estimate → Type 0
inside x e = at_most (low_end e) x × at_most x (high_end e)

-- a number lies in both bands
abbrev pub shared : Estimate → Estimate → Type 0
shared e f = (x : Fraction) × Proper x × inside x e × inside x f

-- one of two bands ends below where the other begins
abbrev pub bands_apart : Estimate → Estimate → Bool
bands_apart e f = below (high_end e) (low_end f) || below (high_end f) (low_end e)

-- the size of the numbers of a result
pub record Bounded (e : Estimate) : Type 0 where
  pub value : unsigned_abs e.value.0 ≤ 2 ^ 60
  pub radius : unsigned_abs e.radius ≤ 2 ^ 60
  pub least : 1 ≤ e.value.1
  pub most : e.value.1 ≤ 2 ^ 31

-- the first of two faults
abbrev pub first_fault : Option Fault → Option Fault → Option Fault
first_fault (Some f) o = Some f
first_fault None o = o

-- the fault of the first check that fails: the spans, then the first run, then the other
abbrev pub verdict_refusal : Meaning → Ledger → Meaning → Ledger → Option Fault
verdict_refusal m l n k =
    cond (not (m.span == n.span)) (Some (fault_at SpansDiffer 0))
    (first_fault (empty_station Run (lowest_empty m.weighting l.readings))
    (empty_station Other (lowest_empty n.weighting k.readings)))

abbrev pub verdict_on : Estimate → Estimate → Verdict
verdict_on e f = cond (bands_apart e f) Apart Meet

abbrev pub verdict_of : Meaning → Ledger → Meaning → Ledger → Result Verdict Fault
verdict_of m l n k =
    given (verdict_refusal m l n k) (verdict_on (estimate_of m l.readings) (estimate_of n k.readings))

-- what a verdict means: where the spans are equal and both runs have a result, it is "apart" exactly where no number lies in both closed bands
pub record Separates (m : Meaning) (l : Ledger) (n : Meaning) (k : Ledger) (r : Result Verdict Fault) : Type 0 where
  pub apart : m.span ≡ n.span → (e f : Estimate) → result_of m l.readings ≡ Ok e → result_of n k.readings ≡ Ok f → r ≡ Ok Apart → shared e f → ⊥
  pub only_then : m.span ≡ n.span → (e f : Estimate) → result_of m l.readings ≡ Ok e → result_of n k.readings ≡ Ok f → (shared e f → ⊥) → r ≡ Ok Apart
  pub meet : m.span ≡ n.span → (e f : Estimate) → result_of m l.readings ≡ Ok e → result_of n k.readings ≡ Ok f → r ≡ Ok Meet → shared e f
