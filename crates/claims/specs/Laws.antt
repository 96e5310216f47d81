-- The law over whole runs: of one case, and of two cases and the verdict on them.
use Rattle.std.specs.Prelude.{◌≡◌, ℕ, ◌+◌, ◌≤◌, min, cond, List, [], ◌∷◌, ◌++◌, length, take, Some, None, Ok, Err, Option, Result, ◌≢◌}
use Rattle.rules.specs.Meaning.{Meaning, Sound}
use Rattle.rules.specs.declared.fault.Cause.{Cause}
use Rattle.rules.specs.declared.fault.Fault.{Fault}
use Rattle.layers.specs.Layers.{at_place, piled, refusal}
use Rattle.layers.specs.declared.layer.Layer.{Layer}
use Rattle.layers.specs.declared.layer.Layer.TheVariants.{LowestTerms, Mirror, Panels, Refinement, Stretch}
use Rattle.runs.specs.Ledger.{Entry, result_of}
use Rattle.runs.specs.Verdicts.{Separates, inside, verdict_of}
use Rattle.runs.specs.declared.estimate.Estimate.{Estimate}
use Rattle.runs.specs.declared.verdict.Verdict.{Verdict}
use Rattle.runs.specs.declared.verdict.Verdict.TheVariants.{Apart}
use Rattle.claims.specs.Histories.{Kept, ledger_after, replies_to}
use Rattle.claims.specs.Polynomials.{Fits, OfDegree, Polynomial, integral}
use Rattle.claims.specs.Replays.{Account}

-- no layer of the list is refused by the rule below it
abbrev pub AllAccepted : List Layer → Meaning → Type 0
AllAccepted ls b = (below above : List Layer) (l : Layer) → ls ≡ below ++ (l ∷ above) → refusal l (piled below b) ≡ None

-- the lowest layer of the list that is refused, with its place, 1 next to the bottom, and the cause
pub record RefusedAt (ls : List Layer) (b : Meaning) (place : ℕ) (cause : Cause) : Type 0 where
  pub below : List Layer
  pub layer : Layer
  pub above : List Layer
  pub split : ls ≡ below ++ (layer ∷ above)
  pub accepted : AllAccepted below b
  pub refused : refusal layer (piled below b) ≡ Some cause
  pub place_is : place ≡ length below + 1

-- refinement adds two degrees over a rule told symmetric and one over any other; the other layers keep the degree
abbrev pub degree_over : Layer → Meaning → ℕ
degree_over (Panels m) r = r.degree
degree_over (Stretch k) r = r.degree
degree_over Mirror r = r.degree
degree_over Refinement r = cond r.symmetric (r.degree + 2) (r.degree + 1)
degree_over LowestTerms r = r.degree

-- the pile of a case, from what the case told
pub record PileLaw (b : Meaning) (ls : List Layer) (told : Result Account Fault) : Type 0 where
  -- it tells what the layers give, one after the other, from the rule at the bottom
  pub tells : (a : Account) → told ≡ Ok a → a.pile ≡ piled ls b
  -- it keeps the promises of a rule
  pub promises : (a : Account) → told ≡ Ok a → Sound a.pile
  -- it is refused exactly where a layer is
  pub accepted : (a : Account) → told ≡ Ok a → AllAccepted ls b
  pub refused : (place : ℕ) (cause : Cause) → told ≡ Err (at_place place cause) → RefusedAt ls b place cause
  pub refused_there : (place : ℕ) (cause : Cause) → RefusedAt ls b place cause → told ≡ Err (at_place place cause)
  -- what each accepted layer makes of the degree
  pub degrees : (below above : List Layer) (l : Layer) → ls ≡ below ++ (l ∷ above) → refusal l (piled below b) ≡ None → (piled (below ++ (l ∷ [])) b).degree ≡ degree_over l (piled below b)

-- one case: a rule b that keeps the promises, layers and calls, what the case told, and the replies that it wrote
pub record CaseLaw (b : Meaning) (ls : List Layer) (es : List Entry) (told : Result Account Fault) (replies : List (Result (Option Estimate) Fault)) : Type 0 where
  pub pile : PileLaw b ls told
  -- the ledger at the end is that of all calls
  pub ledger : (a : Account) → told ≡ Ok a → a.ledger ≡ ledger_after a.pile es
  -- the first n replies are the ledger's replies to the first n calls
  pub answered : (a : Account) → told ≡ Ok a → (n : ℕ) → n ≤ length es → take n replies ≡ replies_to a.pile (take n es)
  -- at each moment the ledger is what a person would keep
  pub kept : (a : Account) → told ≡ Ok a → (n : ℕ) → Kept a.pile (take n es) (ledger_after a.pile (take n es))
  -- at no moment does the band of the result miss the integral of a polynomial of at most the pile's degree that fits the ledger then
  pub band : (a : Account) → told ≡ Ok a → (n : ℕ) (p : Polynomial) → OfDegree a.pile.degree p → Fits p (ledger_after a.pile (take n es)).readings → (e : Estimate) → result_of a.pile (ledger_after a.pile (take n es)).readings ≡ Ok e → inside (integral p a.pile.span) e

-- the verdict on two cases, where both have a run
abbrev pub verdict_between : Result Account Fault → Result Account Fault → Option (Result Verdict Fault)
verdict_between (Ok a) (Ok c) = Some (verdict_of a.pile a.ledger c.pile c.ledger)
verdict_between (Ok a) (Err f) = None
verdict_between (Err f) (Ok c) = None
verdict_between (Err f) (Err g) = None

-- two cases with their verdict
pub record VerdictLaw (first second : Result Account Fault) (verdict : Option (Result Verdict Fault)) : Type 0 where
  -- the verdict, or its refusal, is the one that the two ledgers give
  pub given : (a c : Account) → first ≡ Ok a → second ≡ Ok c → verdict ≡ Some (verdict_of a.pile a.ledger c.pile c.ledger)
  -- where the spans are equal and both have a result it is "apart" exactly where no number lies in both closed bands
  pub separates : (a c : Account) → first ≡ Ok a → second ≡ Ok c → (v : Result Verdict Fault) → verdict ≡ Some v → Separates a.pile a.ledger c.pile c.ledger v
  -- two runs over piles of equal span are never told apart if one polynomial of at most the lesser degree fits both
  pub never_apart : (a c : Account) → first ≡ Ok a → second ≡ Ok c → a.pile.span ≡ c.pile.span → (p : Polynomial) → OfDegree (min a.pile.degree c.pile.degree) p → Fits p a.ledger.readings → Fits p c.ledger.readings → verdict ≢ Some (Ok Apart)
