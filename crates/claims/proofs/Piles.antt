-- A list of layers: its pile, and where it is refused.
use Rattle.std.proofs.Common.{◌≡◌, ℕ, ◌+◌, List, [], ◌∷◌, ◌++◌, length, Some, None, Ok, Err, Option, sym, refl, ap, ◌∙◌, subst, arith}
use Rattle.rules.specs.Faults.{carried}
use Rattle.rules.specs.Meaning.{Meaning, Sound}
use Rattle.rules.specs.declared.fault.Cause.{Cause}
use Rattle.rules.specs.declared.fault.Fault.{Fault}
use Rattle.layers.specs.Layers.{accepted_or, at_place, laid, made, making, piled, piling, refusal}
use Rattle.layers.specs.declared.layer.Layer.{Layer}
use Rattle.layers.specs.declared.layer.Layer.TheVariants.{LowestTerms, Mirror, Panels, Refinement, Stretch}
use Rattle.layers.proofs.Keeps.{laid_sound}
use Rattle.claims.specs.Laws.{AllAccepted, RefusedAt, degree_over}
use Rattle.claims.proofs.Keeping.{no_split}

pub piled_sound : (ls : List Layer) (b : Meaning) → Sound b → Sound (piled ls b)
piled_sound [] b h = h
piled_sound (l ∷ ls) b h = piled_sound ls (laid l b) (laid_sound l b h)

piled_append : (xs ys : List Layer) (b : Meaning) → piled (xs ++ ys) b ≡ piled ys (piled xs b)
piled_append [] ys b = refl
piled_append (x ∷ xs) ys b = piled_append xs ys (laid x b)

-- an accepted layer
laid_made : (l : Layer) (b : Meaning) → refusal l b ≡ None → laid l b ≡ made l b
laid_made l b e = ap (λ o. accepted_or o (made l b) (λ _. b)) e

making_made : (l : Layer) (p : ℕ) (b : Meaning) → refusal l b ≡ None → making l p b ≡ Ok (made l b)
making_made l p b e = ap (λ o. accepted_or o (Ok (made l b)) (λ c. Err (at_place p c))) e

-- a refused layer
making_refused : (l : Layer) (p : ℕ) (b : Meaning) (c : Cause) → refusal l b ≡ Some c → making l p b ≡ Err (at_place p c)
making_refused l p b c e = ap (λ o. accepted_or o (Ok (made l b)) (λ x. Err (at_place p x))) e

made_degree : (l : Layer) (b : Meaning) → (made l b).degree ≡ degree_over l b
made_degree (Panels m) b = refl
made_degree (Stretch k) b = refl
made_degree Mirror b = refl
made_degree Refinement b = refl
made_degree LowestTerms b = refl

pub degrees : (below : List Layer) (l : Layer) (b : Meaning) → refusal l (piled below b) ≡ None → (piled (below ++ (l ∷ [])) b).degree ≡ degree_over l (piled below b)
degrees below l b e =
    ap (λ m. m.degree) (piled_append below (l ∷ []) b ∙ laid_made l (piled below b) e) ∙ made_degree l (piled below b)

-- one more layer at the bottom
accepted_more : (l : Layer) (ls : List Layer) (b : Meaning) → refusal l b ≡ None → AllAccepted ls (laid l b) → AllAccepted (l ∷ ls) b
accepted_more l ls b e h [] above k is = let head : l ≡ k = cc in subst (λ x. refusal x b ≡ None) head e
accepted_more l ls b e h (x ∷ below) above k is =
    let tail : ls ≡ below ++ (k ∷ above) = cc in
    let head : l ≡ x = cc in
    subst (λ y. refusal k (piled below (laid y b)) ≡ None) head (h below above k tail)

accepted_rest : (l : Layer) (ls : List Layer) (b : Meaning) → AllAccepted (l ∷ ls) b → AllAccepted ls (laid l b)
accepted_rest l ls b h below above k is = h (l ∷ below) above k (ap (λ xs. l ∷ xs) is)

-- the layers above an accepted one, and above a refused one
above_accepted : (l : Layer) (ls : List Layer) (p : ℕ) (b : Meaning) → refusal l b ≡ None → piling ls (p + 1) (laid l b) ≡ piling (l ∷ ls) p b
above_accepted l ls p b is =
    ap (piling ls (p + 1)) (laid_made l b is) ∙ sym (ap (λ r. carried r (λ n. piling ls (p + 1) n)) (making_made l p b is))

above_refused : (l : Layer) (ls : List Layer) (p : ℕ) (b : Meaning) (c : Cause) → refusal l b ≡ Some c → piling (l ∷ ls) p b ≡ Err (at_place p c)
above_refused l ls p b c is = ap (λ r. carried r (λ n. piling ls (p + 1) n)) (making_refused l p b c is)

pub piling_ok : (ls : List Layer) (p : ℕ) (b m : Meaning) → piling ls p b ≡ Ok m → (m ≡ piled ls b) × AllAccepted ls b
piling_ok [] p b m e = (cc, λ below above l is. absurd (no_split below l above is))
piling_ok (l ∷ ls) p b m e = go (refusal l b) refl (piling_ok ls (p + 1) (laid l b) m)
  where
    go : (o : Option Cause) → refusal l b ≡ o → (piling ls (p + 1) (laid l b) ≡ Ok m → (m ≡ piled ls (laid l b)) × AllAccepted ls (laid l b)) → (m ≡ piled (l ∷ ls) b) × AllAccepted (l ∷ ls) b
    go None is more =
        let h = more (above_accepted l ls p b is ∙ e) in
        (h.0, accepted_more l ls b is h.1)
    go (Some c) is more = let stopped = above_refused l ls p b c is in cc

-- the lowest refused layer of a list that begins at place p
record Stops (p : ℕ) (ls : List Layer) (b : Meaning) (e : Fault) : Type 0 where
  pub below : List Layer
  pub layer : Layer
  pub above : List Layer
  pub cause : Cause
  pub split : ls ≡ below ++ (layer ∷ above)
  pub accepted : AllAccepted below b
  pub refused : refusal layer (piled below b) ≡ Some cause
  pub fault : e ≡ at_place (length below + p) cause

piling_err : (ls : List Layer) (p : ℕ) (b : Meaning) (e : Fault) → piling ls p b ≡ Err e → Stops p ls b e
piling_err [] p b e h = cc
piling_err (l ∷ ls) p b e h = go (refusal l b) refl (piling_err ls (p + 1) (laid l b) e)
  where
    go : (o : Option Cause) → refusal l b ≡ o → (piling ls (p + 1) (laid l b) ≡ Err e → Stops (p + 1) ls (laid l b) e) → Stops p (l ∷ ls) b e
    go None is more =
        let s = more (above_accepted l ls p b is ∙ h) in
        record {
          below = l ∷ s.below;
          layer = s.layer;
          above = s.above;
          cause = s.cause;
          split = ap (λ xs. l ∷ xs) s.split;
          accepted = accepted_more l s.below b is s.accepted;
          refused = s.refused;
          fault = s.fault ∙ ap (λ n. at_place n s.cause) (omega arith);
        }
    go (Some c) is more =
        let stopped = above_refused l ls p b c is in
        let same : e ≡ at_place p c = cc in
        record {
          below = [];
          layer = l;
          above = ls;
          cause = c;
          split = refl;
          accepted = λ xs ys k split. absurd (no_split xs k ys split);
          refused = is;
          fault = same ∙ ap (λ n. at_place n c) (omega arith);
        }

piling_stops : (p : ℕ) (below above : List Layer) (l : Layer) (b : Meaning) (c : Cause) → AllAccepted below b → refusal l (piled below b) ≡ Some c → piling (below ++ (l ∷ above)) p b ≡ Err (at_place (length below + p) c)
piling_stops p [] above l b c h is = above_refused l above p b c is ∙ ap (λ n. Err (at_place n c)) (omega arith)
piling_stops p (x ∷ below) above l b c h is =
    sym (above_accepted x (below ++ (l ∷ above)) p b (h [] below x refl)) ∙ piling_stops (p + 1) below above l (laid x b) c (accepted_rest x below b h) is ∙
    ap (λ n. Err (at_place n c)) (omega arith)

pub refused_at : (ls : List Layer) (b : Meaning) (place : ℕ) (cause : Cause) → piling ls 1 b ≡ Err (at_place place cause) → RefusedAt ls b place cause
refused_at ls b place cause h =
    let s = piling_err ls 1 b (at_place place cause) h in
    let same : cause ≡ s.cause = ap (λ f. f.cause) s.fault in
    record {
      below = s.below;
      layer = s.layer;
      above = s.above;
      split = s.split;
      accepted = s.accepted;
      refused = s.refused ∙ ap (λ c. Some c) (sym same);
      place_is = ap (λ f. f.place) s.fault;
    }

pub refused_there : (ls : List Layer) (b : Meaning) (place : ℕ) (cause : Cause) → RefusedAt ls b place cause → piling ls 1 b ≡ Err (at_place place cause)
refused_there ls b place cause r =
    ap (λ xs. piling xs 1 b) r.split ∙ piling_stops 1 r.below r.above r.layer b cause r.accepted r.refused ∙
    ap (λ n. Err (at_place n cause)) (sym r.place_is)
