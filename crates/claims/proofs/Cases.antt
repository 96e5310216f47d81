-- The law of one case.
use Rattle.std.proofs.Common.{◌≡◌, ℕ, ◌≤◌, Bool, true, false, cond, leb, List, length, take, drop, Ok, Err, Option, Result, sym, refl, ap, ◌∙◌, subst, subst₂, arith}
use lib.Seq.{take-append-le}
use Rattle.std.proofs.lemmas.Bool.{leb-true}
use Rattle.rules.specs.Faults.{carried}
use Rattle.rules.specs.Meaning.{Meaning, Sound}
use Rattle.rules.specs.declared.fault.Cause.{Cause}
use Rattle.rules.specs.declared.fault.Fault.{Fault}
use Rattle.rules.specs.declared.fault.Origin.TheVariants.{Layer as FromLayer, Output}
use Rattle.layers.specs.Layers.{at_place, piling}
use Rattle.layers.specs.declared.layer.Layer.{Layer}
use Rattle.runs.specs.Ledger.{Entry, blank}
use Rattle.runs.specs.declared.estimate.Estimate.{Estimate}
use Rattle.claims.specs.Histories.{ledger_after, replies_to}
use Rattle.claims.specs.Laws.{CaseLaw, PileLaw}
use Rattle.claims.specs.Replays.{Account, replayed, replies_left, too_few_places}
use Rattle.claims.proofs.Bands.{band_holds}
use Rattle.claims.proofs.Keeping.{kept, replies_length, replies_prefix}
use Rattle.claims.proofs.Piles.{degrees, piled_sound, piling_ok, refused_at, refused_there}

-- an accepted case: its pile was made, its ledger is that of all calls, and there was a place for each reply
record Whole (b : Meaning) (ls : List Layer) (es : List Entry) (places : ℕ) (a : Account) : Type 0 where
  pub pile : piling ls 1 b ≡ Ok a.pile
  pub ledger : a.ledger ≡ ledger_after a.pile es
  pub room : length es ≤ places

abbrev finished : Meaning → List Entry → Account
finished m es = record { pile = m; ledger = ledger_after m es }

abbrev with_room : List Entry → Bool → Meaning → Result Account Fault
with_room es t m = cond t (Ok (finished m es)) (Err (too_few_places es))

roomy : (es : List Entry) (t : Bool) (m : Meaning) (a : Account) → with_room es t m ≡ Ok a → (t ≡ true) × (finished m es ≡ a)
roomy es t m a e = grind arith

whole : (b : Meaning) (ls : List Layer) (es : List Entry) (places : ℕ) (a : Account) → replayed b ls es places ≡ Ok a → Whole b ls es places a
whole b ls es places a e = go (piling ls 1 b) refl e
  where
    go : (r : Result Meaning Fault) → piling ls 1 b ≡ r → carried r (with_room es (leb (length es) places)) ≡ Ok a → Whole b ls es places a
    go (Ok m) is h =
        let p = roomy es (leb (length es) places) m a h in
        record {
          pile = is ∙ ap (λ c. Ok c.pile) p.1;
          ledger = sym (ap (λ c. c.ledger) p.1) ∙ ap (λ c. ledger_after c.pile es) p.1;
          room = leb-true _ _ p.0;
        }
    go (Err f) is h = cc

-- a refusal by a layer is one of the pile
by_layer : (b : Meaning) (ls : List Layer) (es : List Entry) (places place : ℕ) (cause : Cause) → replayed b ls es places ≡ Err (at_place place cause) → piling ls 1 b ≡ Err (at_place place cause)
by_layer b ls es places place cause e = go (piling ls 1 b) refl e
  where
    go : (r : Result Meaning Fault) → piling ls 1 b ≡ r → carried r (with_room es (leb (length es) places)) ≡ Err (at_place place cause) → piling ls 1 b ≡ Err (at_place place cause)
    go (Ok m) is h = absurd (other (leb (length es) places) h)
      where
        other : (t : Bool) → with_room es t m ≡ Err (at_place place cause) → ⊥
        other true q = cc
        other false q =
            let fault : at_place place cause ≡ too_few_places es = cc in
            let origin : FromLayer ≡ Output = ap (λ f. f.layer) fault in
            cc
    go (Err f) is h = is ∙ cc

pile_law : (b : Meaning) (ls : List Layer) (es : List Entry) (places : ℕ) → Sound b → PileLaw b ls (replayed b ls es places)
pile_law b ls es places sound = record {
  tells = λ a e. (piling_ok ls 1 b a.pile (whole b ls es places a e).pile).0;
  promises = λ a e. subst Sound (sym (piling_ok ls 1 b a.pile (whole b ls es places a e).pile).0) (piled_sound ls b sound);
  accepted = λ a e. (piling_ok ls 1 b a.pile (whole b ls es places a e).pile).1;
  refused = λ place cause e. refused_at ls b place cause (by_layer b ls es places place cause e);
  refused_there = λ place cause r. ap (λ t. carried t (with_room es (leb (length es) places))) (refused_there ls b place cause r);
  degrees = λ below above l split e. degrees below l b e;
}

answered : (b : Meaning) (ls : List Layer) (es : List Entry) (before : List (Result (Option Estimate) Fault)) (a : Account) → replayed b ls es (length before) ≡ Ok a → (n : ℕ) → n ≤ length es → take n (replies_left (replayed b ls es (length before)) es before) ≡ replies_to a.pile (take n es)
answered b ls es before a e n h =
    let few : n ≤ length (replies_to a.pile es) = omega (arith, replies_length a.pile blank es) in
    ap (λ r. take n (replies_left r es before)) e ∙ take-append-le n (replies_to a.pile es) (drop (length es) before) few ∙ replies_prefix a.pile es n

case_law : (b : Meaning) (ls : List Layer) (es : List Entry) (before : List (Result (Option Estimate) Fault)) → Sound b → CaseLaw b ls es (replayed b ls es (length before)) (replies_left (replayed b ls es (length before)) es before)
case_law b ls es before sound =
    let law = pile_law b ls es (length before) sound in
    record {
      pile = law;
      ledger = λ a e. (whole b ls es (length before) a e).ledger;
      answered = λ a e. answered b ls es before a e;
      kept = λ a e n. kept a.pile (take n es);
      band = λ a e n p deg fits r is. band_holds a.pile (law.promises a e) (ledger_after a.pile (take n es)).readings r is p deg fits;
    }

-- the same for what a call told and wrote
pub case_law_of : (b : Meaning) (ls : List Layer) (es : List Entry) (before : List (Result (Option Estimate) Fault)) (told : Result Account Fault) (replies : List (Result (Option Estimate) Fault)) → Sound b → told ≡ replayed b ls es (length before) → replies ≡ replies_left (replayed b ls es (length before)) es before → CaseLaw b ls es told replies
case_law_of b ls es before told replies sound et er = subst₂ (CaseLaw b ls es) (sym et) (sym er) (case_law b ls es before sound)
