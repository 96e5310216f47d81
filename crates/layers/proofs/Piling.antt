-- Steps of a loop over a list of layers.
use Rattle.std.proofs.Common.{◌≡◌, ℕ, ◌+◌, ◌<◌, List, ◌∷◌, length, get_or, drop, Some, None, Option, Ok, Err, Result, sym, refl, ap, ◌∙◌, add-one, drop-cons}
use Rattle.rules.specs.Faults.{carried}
use Rattle.rules.specs.Meaning.{Meaning}
use Rattle.rules.specs.declared.fault.Cause.{Cause}
use Rattle.rules.specs.declared.fault.Fault.{Fault}
use Rattle.layers.specs.Layers.{accepted_or, at_place, made, making, piling, reached, refusal}
use Rattle.layers.specs.declared.layer.Layer.{Layer}

-- a layer that is made goes on, one that is refused ends there
layer_made : (o : Option Cause) (p : ℕ) (k m r : Meaning) (rest : List Layer) → ◌≡◌ {A = Result Meaning Fault} (Ok m) (accepted_or o (Ok k) (λ e. Err (at_place p e))) → reached rest m ≡ accepted_or o (reached rest k) (λ _. r)
layer_made None p k m r rest e = let same : m ≡ k = cc in ap (reached rest) same
layer_made (Some c) p k m r rest e = cc

layer_refused : (o : Option Cause) (p : ℕ) (k r x : Meaning) (f : Fault) → ◌≡◌ {A = Result Meaning Fault} (Err f) (accepted_or o (Ok k) (λ e. Err (at_place p e))) → r ≡ accepted_or o x (λ _. r)
layer_refused None p k r x f e = cc
layer_refused (Some c) p k r x f e = refl

module _ (ls : List Layer) (i : ℕ) (d : Layer) (t : Meaning) where
  -- the layer that comes next, and what is left after it
  next : i < length ls → piling (drop i ls) (i + 1) t ≡ carried (making (get_or ls i d) (i + 1) t) (λ m. piling (drop (i + 1) ls) (i + 1 + 1) m)
  next h =
      ap (λ xs. piling xs (i + 1) t) (drop-cons ls i d h ∙ ap (λ n. get_or ls i d ∷ drop n ls) (sym (add-one i)))

  pub piling_more : (m : Meaning) → i < length ls → ◌≡◌ {A = Result Meaning Fault} (Ok m) (making (get_or ls i d) (i + 1) t) → piling (drop (i + 1) ls) (i + 1 + 1) m ≡ piling (drop i ls) (i + 1) t
  piling_more m h e = ap (λ r. carried r (λ n. piling (drop (i + 1) ls) (i + 1 + 1) n)) e ∙ sym (next h)

  -- the same of the rule that is reached
  next_reached : i < length ls → reached (drop i ls) t ≡ accepted_or (refusal (get_or ls i d) t) (reached (drop (i + 1) ls) (made (get_or ls i d) t)) (λ _. t)
  next_reached h = ap (λ xs. reached xs t) (drop-cons ls i d h ∙ ap (λ n. get_or ls i d ∷ drop n ls) (sym (add-one i)))

  pub reached_more : (m : Meaning) → i < length ls → ◌≡◌ {A = Result Meaning Fault} (Ok m) (making (get_or ls i d) (i + 1) t) → reached (drop (i + 1) ls) m ≡ reached (drop i ls) t
  reached_more m h e =
      layer_made (refusal (get_or ls i d) t) (i + 1) (made (get_or ls i d) t) m t (drop (i + 1) ls) e ∙ sym (next_reached h)

  pub reached_refused : (f : Fault) → i < length ls → ◌≡◌ {A = Result Meaning Fault} (Err f) (making (get_or ls i d) (i + 1) t) → t ≡ reached (drop i ls) t
  reached_refused f h e =
      layer_refused (refusal (get_or ls i d) t) (i + 1) (made (get_or ls i d) t) t (reached (drop (i + 1) ls) (made (get_or ls i d) t)) f e ∙
      sym (next_reached h)
