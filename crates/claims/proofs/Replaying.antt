-- Steps of a loop that performs calls and writes their replies.
use Rattle.std.proofs.Common.{◌≡◌, ℕ, ◌+◌, ◌<◌, List, [], ◌∷◌, ◌++◌, map, length, get_or, take, drop, set, Option, Result, sym, refl, ap, ◌∙◌, ap₂, append_assoc, append-nil, add-one, arith, length-set, take-append-drop, drop-cons, drop-drop, drop-set-lt}
use Rattle.std.proofs.lemmas.List.{take_more_set}
use Rattle.rules.specs.Meaning.{Meaning}
use Rattle.rules.specs.declared.fault.Fault.{Fault}
use Rattle.runs.specs.Ledger.{Entry, Ledger, answer, step}
use Rattle.runs.specs.declared.estimate.Estimate.{Estimate}
use Rattle.claims.specs.Histories.{ledger_from, replies_from}

-- after i calls, whose replies are written as `shown` has them: the ledger is k, and what is left gives the rest of the ledger and of the replies; the places from i on are as they were
pub record Underway {B : Type 0} (shown : Result (Option Estimate) Fault → B) (m : Meaning) (l : Ledger) (rest es : List Entry) (places now : List B) (i : ℕ) (k : Ledger) : Type 0 where
  pub ledger : ledger_from m k rest ≡ ledger_from m l es
  pub replies : take i now ++ map shown (replies_from m k rest) ≡ map shown (replies_from m l es)
  pub beyond : drop i now ≡ drop i places
  pub long : length now ≡ length places

-- the steps of the loop, which the check finds alone today; they stay as the page of the port (docs/PORT.md) names them

-- the call that comes next, and those after it
pub next_entry : {A : Type 0} (f : A → Entry) (xs : List A) (i : ℕ) (x : A) → i < length xs → x ≡ get_or xs i x → map f (drop i xs) ≡ f x ∷ map f (drop (i + 1) xs)
next_entry f xs i x h is =
    ap (map f) (drop-cons xs i x h ∙ ap₂ (λ y n. y ∷ drop n xs) (sym is) (sym (add-one i)))

pub underway_none : {B : Type 0} (shown : Result (Option Estimate) Fault → B) (m : Meaning) (l : Ledger) (es : List Entry) (places : List B) → Underway shown m l es es places places 0 l
underway_none shown m l es places = record { ledger = refl; replies = refl; beyond = refl; long = refl }

module _ {B : Type 0} (shown : Result (Option Estimate) Fault → B) (m : Meaning) (l : Ledger) (es : List Entry) (places now : List B) (i : ℕ) (k : Ledger) where
  pub underway_more : (e : Entry) (rest : List Entry) (r : B) (after : Ledger) → i < length now → r ≡ shown (answer m k e) → after ≡ step m k e → Underway shown m l (e ∷ rest) es places now i k → Underway shown m l rest es places (set now i r) (i + 1) after
  underway_more e rest r after h er ek u = record {
    ledger = ap (λ t. ledger_from m t rest) ek ∙ u.ledger;
    replies =
        ap (λ t. t ++ map shown (replies_from m after rest)) (take_more_set now i r h) ∙ append_assoc (take i now) (r ∷ []) (map shown (replies_from m after rest)) ∙
        ap₂ (λ s t. take i now ++ (s ∷ map shown (replies_from m t rest))) er ek ∙ u.replies;
    beyond =
        drop-set-lt (i + 1) now i r (omega arith) ∙ sym (drop-drop 1 i now) ∙ ap (drop 1) u.beyond ∙ drop-drop 1 i places;
    long = length-set now i r ∙ u.long;
  }

  pub underway_ledger : Underway shown m l [] es places now i k → k ≡ ledger_from m l es
  underway_ledger u = u.ledger

  pub underway_replies : Underway shown m l [] es places now i k → now ≡ map shown (replies_from m l es) ++ drop i places
  underway_replies u =
      sym (take-append-drop i now) ∙ ap₂ (λ s t. s ++ t) (sym (append-nil (take i now)) ∙ u.replies) u.beyond
