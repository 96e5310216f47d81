-- The law of two cases and the verdict on them.
use Rattle.std.proofs.Common.{◌≡◌, ℕ, min, Bool, cond, not, eqb, Some, None, Ok, Option, Result, sym, refl, ap, ap₂, arith}
use Rattle.rules.specs.Meaning.{Meaning, Sound}
use Rattle.rules.specs.declared.fault.Cause.TheVariants.{SpansDiffer}
use Rattle.rules.specs.declared.fault.Fault.{Fault}
use Rattle.rules.specs.declared.fault.Origin.TheVariants.{Other, Run}
use Rattle.runs.specs.Ledger.{Ledger, estimate_of, result_of}
use Rattle.runs.specs.Totals.{empty_station, fault_at, lowest_empty, given as runs_given}
use Rattle.runs.specs.Verdicts.{first_fault, verdict_of, verdict_on, verdict_refusal}
use Rattle.runs.proofs.Judging.{given_ok, separates}
use Rattle.runs.specs.declared.verdict.Verdict.{Verdict}
use Rattle.runs.specs.declared.verdict.Verdict.TheVariants.{Apart}
use Rattle.claims.specs.Laws.{VerdictLaw, verdict_between}
use Rattle.claims.specs.Replays.{Account}
use Rattle.claims.proofs.Bands.{common_shared, of_lesser_degree}

both_given : (first second : Result Account Fault) (a c : Account) → first ≡ Ok a → second ≡ Ok c → verdict_between first second ≡ Some (verdict_of a.pile a.ledger c.pile c.ledger)
both_given first second a c ea ec = ap₂ verdict_between ea ec

-- a verdict that is given finds a result in both runs
passed : (t : Bool) (f : Fault) (o : Option Fault) → cond t (Some f) o ≡ None → o ≡ None
passed t f o e = grind arith

neither : (x y : Option Fault) → first_fault x y ≡ None → (x ≡ None) × (y ≡ None)
neither x y e = grind arith

run_none : (o : Option ℕ) → empty_station Other o ≡ None → empty_station Run o ≡ None
run_none o e = grind arith

module _ (m : Meaning) (l : Ledger) (n : Meaning) (k : Ledger) (v : Verdict) (is : verdict_of m l n k ≡ Ok v) where
  complete : (empty_station Run (lowest_empty m.weighting l.readings) ≡ None) × (empty_station Other (lowest_empty n.weighting k.readings) ≡ None)
  complete =
      neither _ _
      (passed (not (eqb m.span n.span)) (fault_at SpansDiffer 0) _
      (given_ok (verdict_refusal m l n k) v (verdict_on (estimate_of m l.readings) (estimate_of n k.readings)) (sym is)).1)

  first_result : result_of m l.readings ≡ Ok (estimate_of m l.readings)
  first_result = ap (λ o. runs_given o (estimate_of m l.readings)) complete.0

  second_result : result_of n k.readings ≡ Ok (estimate_of n k.readings)
  second_result =
      ap (λ o. runs_given o (estimate_of n k.readings)) (run_none (lowest_empty n.weighting k.readings) complete.1)

pub verdict_law_lem : (first second : Result Account Fault) → ((a : Account) → first ≡ Ok a → Sound a.pile) → ((c : Account) → second ≡ Ok c → Sound c.pile) → VerdictLaw first second (verdict_between first second)
verdict_law_lem first second sound-first sound-second = record {
  given = both_given first second;
  separates = λ a c ea ec v is.
      let both = both_given first second a c ea ec in
      let same : v ≡ verdict_of a.pile a.ledger c.pile c.ledger = cc in
      separates a.pile a.ledger c.pile c.ledger (sound-first a ea) (sound-second c ec) v same;
  never_apart = λ a c ea ec spans p deg fa fc is.
      let both = both_given first second a c ea ec in
      let same : verdict_of a.pile a.ledger c.pile c.ledger ≡ Ok Apart = cc in
      let ra = first_result a.pile a.ledger c.pile c.ledger Apart same in
      let rc = second_result a.pile a.ledger c.pile c.ledger Apart same in
      let lesser = min a.pile.degree c.pile.degree in
      (separates a.pile a.ledger c.pile c.ledger (sound-first a ea) (sound-second c ec) (Ok Apart) (sym same)).apart spans _ _ ra rc refl
      (common_shared a.pile c.pile (sound-first a ea) (sound-second c ec) spans a.ledger.readings c.ledger.readings _ _ ra rc p
      (of_lesser_degree lesser a.pile.degree p (omega arith) deg) (of_lesser_degree lesser c.pile.degree p (omega arith) deg) fa fc);
}
