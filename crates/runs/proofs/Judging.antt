-- The verdict on two ledgers.
use Rattle.std.proofs.Common.{◌≡◌, ℕ, ◌≤◌, Bool, true, false, cond, not, ℤ, pos, ◌≤ℤ◌, is_some, Some, None, Ok, Option, Result, sym, refl, ap, ◌∙◌, subst, ap₂, ⊎_elim, arith}
use borrow.Author.Differences.{ints}
use Rattle.std.proofs.lemmas.Bool.{cases_Bool, eq-eqb}
use Rattle.rules.specs.Meaning.{Meaning, Sound}
use Rattle.rules.specs.declared.fault.Cause.TheVariants.{SpansDiffer}
use Rattle.rules.specs.declared.fault.Fault.{Fault}
use Rattle.rules.specs.declared.fault.Origin.TheVariants.{Run, Other}
use Rattle.algebra.specs.Sums.{abs}
use Rattle.algebra.proofs.Absolute.{◌≤∙◌, ≤ℤ_of_eq, ≤ℤ_scale, abs_sum}
use Rattle.sources.specs.Readings.{Readings, SoundReadings}
use Rattle.runs.specs.declared.estimate.Estimate.{Estimate}
use Rattle.runs.specs.declared.held.Held.{Held}
use Rattle.runs.specs.declared.verdict.Verdict.{Verdict}
use Rattle.runs.specs.declared.verdict.Verdict.TheVariants.{Apart, Meet}
use Rattle.runs.specs.Holding.{readings_held}
use Rattle.runs.specs.Ledger.{Ledger, estimate_of, result_of}
use Rattle.runs.specs.Totals.{lowest_empty, absolute_sum, fault_at, empty_station, given}
use Rattle.runs.specs.Verdicts.{shared, bands_apart, Bounded, first_fault, verdict_refusal, verdict_on, verdict_of, Separates}
use Rattle.runs.proofs.Bands.{apart_none, meet_some}
use Rattle.runs.proofs.Sizes.{radius_bound, sum_bound}

-- what is held keeps the promises of a source
pub held_sound : (h : Held) → SoundReadings (readings_held h)
held_sound h = record {
  readings = h.in_range;
  stations = λ s l. none ((readings_held h).reading s) (h.none_beyond s l);
  tolerance = h.tolerance_most;
}
  where
    none : (o : Option ℤ) → is_some o ≡ false → o ≡ None
    none o e = grind arith

-- the numbers of a result are bounded
pub estimate_bounded : (m : Meaning) (r : Readings) → Sound m → SoundReadings r → Bounded (estimate_of m r)
estimate_bounded m r h k = record {
  value = sum_bound m r h k m.weighting.stations (omega arith);
  radius = radius_bound m r h k m.weighting.stations r.tolerance (absolute_sum m.weighting) (omega arith) refl refl;
  least = h.denominator.least;
  most = h.denominator.most;
}

-- no radius is negative
radius_positive : (m : Meaning) (r : Readings) → pos 0 ≤ℤ (estimate_of m r).radius
radius_positive m r =
    ≤ℤ_of_eq (ap pos (omega arith)) ≤∙ ≤ℤ_scale r.tolerance (positive (absolute_sum m.weighting) (abs_sum m.weighting.stations (λ s. abs (m.weighting.weight s))))
  where
    positive : (s : ℤ) → abs s ≤ℤ s → pos 0 ≤ℤ s
    positive s l = omega (arith, ints)

-- an answer that is given was not refused
pub given_ok : {A : Type 0} (o : Option Fault) (a b : A) → Ok a ≡ given o b → (a ≡ b) × (o ≡ None)
given_ok o a b e = grind arith

-- a run that has a result lacks no station, whichever of two it is
other_none : (o : Option ℕ) → empty_station Run o ≡ None → empty_station Other o ≡ None
other_none o e = grind arith

is_apart : (b : Bool) (r : Result Verdict Fault) → r ≡ Ok (cond b Apart Meet) → r ≡ Ok Apart → b ≡ true
is_apart b r e a = grind arith

is_meet : (b : Bool) (r : Result Verdict Fault) → r ≡ Ok (cond b Apart Meet) → r ≡ Ok Meet → b ≡ false
is_meet b r e a = grind arith

module _ (m : Meaning) (l : Ledger) (n : Meaning) (k : Ledger) (e f : Estimate) (he : result_of m l.readings ≡ Ok e) (hf : result_of n k.readings ≡ Ok f) where
  first : (e ≡ estimate_of m l.readings) × (empty_station Run (lowest_empty m.weighting l.readings) ≡ None)
  first = given_ok (empty_station Run (lowest_empty m.weighting l.readings)) e (estimate_of m l.readings) (sym he)

  second : (f ≡ estimate_of n k.readings) × (empty_station Run (lowest_empty n.weighting k.readings) ≡ None)
  second = given_ok (empty_station Run (lowest_empty n.weighting k.readings)) f (estimate_of n k.readings) (sym hf)

  -- the verdict where both have a result
  pub verdict_there : m.span ≡ n.span → verdict_of m l n k ≡ Ok (verdict_on e f)
  verdict_there same =
      let passes : verdict_refusal m l n k ≡ None =
      ap (λ (b : Bool). cond (not b) (Some (fault_at SpansDiffer 0)) (first_fault (empty_station Run (lowest_empty m.weighting l.readings)) (empty_station Other (lowest_empty n.weighting k.readings)))) (eq-eqb m.span n.span same)
      ∙ ap₂ first_fault first.1 (other_none (lowest_empty n.weighting k.readings) second.1) in
      ap (λ (o : Option Fault). given o (verdict_on (estimate_of m l.readings) (estimate_of n k.readings))) passes
      ∙ ap₂ (λ (x : Estimate) (y : Estimate). Ok (verdict_on x y)) (sym first.0) (sym second.0)

  -- a number in both bands, where they are not apart
  common : Sound m → Sound n → bands_apart e f ≡ false → shared e f
  common sm sn =
      meet_some e f (subst (λ (x : Estimate). 1 ≤ x.value.1) (sym first.0) sm.denominator.least) (subst (λ (x : Estimate). 1 ≤ x.value.1) (sym second.0) sn.denominator.least)
      (subst (λ (x : Estimate). pos 0 ≤ℤ x.radius) (sym first.0) (radius_positive m l.readings)) (subst (λ (x : Estimate). pos 0 ≤ℤ x.radius) (sym second.0) (radius_positive n k.readings))

pub separates : (m : Meaning) (l : Ledger) (n : Meaning) (k : Ledger) → Sound m → Sound n → (r : Result Verdict Fault) → r ≡ verdict_of m l n k → Separates m l n k r
separates m l n k sm sn r is = record {
  apart = λ same e f he hf a. apart_none e f (is_apart (bands_apart e f) r (is ∙ verdict_there m l n k e f he hf same) a);
  only_then = λ same e f he hf none.
      let on : r ≡ Ok (verdict_on e f) = is ∙ verdict_there m l n k e f he hf same in
      ⊎_elim (λ b. on ∙ ap (λ (t : Bool). Ok (cond t Apart Meet)) b) (λ b. absurd (none (common m l n k e f he hf sm sn b))) (cases_Bool (bands_apart e f));
  meet = λ same e f he hf a. common m l n k e f he hf sm sn (is_meet (bands_apart e f) r (is ∙ verdict_there m l n k e f he hf same) a);
}
