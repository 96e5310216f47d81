-- From the sizes and the weights of a layer to its meaning.
use Rattle.std.proofs.Common.{◌≡◌, ℕ, suc, Bool, List, get_or, ℤ, pos, Some, None, Ok, Err, Option, Result, sym, refl, ap, ◌∙◌, subst}
use Rattle.rules.specs.Meaning.{Meaning, Sound, telling}
use Rattle.rules.specs.declared.fault.Fault.{Fault}
use Rattle.rules.specs.declared.fault.Cause.{Cause}
use Rattle.layers.specs.Filled.{Holds}
use Rattle.layers.specs.Layers.{accepted_or, at_place, made, making, refusal}
use Rattle.layers.specs.Sizing.{sizes_of, sizing}
use Rattle.layers.specs.declared.layer.Layer.{Layer}
use Rattle.layers.specs.declared.layer.Layer.TheVariants.{Panels, Stretch, Mirror, Refinement, LowestTerms}
use Rattle.layers.specs.declared.sizes.Sizes.{Sizes}
use Rattle.layers.proofs.Keeps.{made_sound}

-- the reply of a making from that of its sizes
pub sizing_err : (l : Layer) (p : ℕ) (r : Meaning) (e : Fault) → sizing l p r ≡ Err e → making l p r ≡ Err e
sizing_err l p r e h = go (refusal l r) (sizes_of (made l r)) (made l r) h
  where
    go : (o : Option Cause) (z : Sizes) (m : Meaning) → accepted_or {A = Result Sizes Fault} o (Ok z) (λ c. Err (at_place p c)) ≡ Err e → accepted_or {A = Result Meaning Fault} o (Ok m) (λ c. Err (at_place p c)) ≡ Err e
    go None z m h = cc
    go (Some c) z m h = cc

pub sizing_ok : (l : Layer) (p : ℕ) (r : Meaning) (z : Sizes) → sizing l p r ≡ Ok z → (refusal l r ≡ None) × (z ≡ sizes_of (made l r))
sizing_ok l p r z h = go (refusal l r) (sizes_of (made l r)) h
  where
    go : (o : Option Cause) (y : Sizes) → accepted_or {A = Result Sizes Fault} o (Ok y) (λ c. Err (at_place p c)) ≡ Ok z → (o ≡ None) × (z ≡ y)
    go None y h = (refl, cc)
    go (Some c) y h = (cc, cc)

pub making_accepted : (l : Layer) (p : ℕ) (r : Meaning) → refusal l r ≡ None → making l p r ≡ Ok (made l r)
making_accepted l p r h = ap (λ o. accepted_or o (Ok (made l r)) (λ c. Err (at_place p c))) h

-- what a table of these sizes and weights tells
pub tells_made : (m : Meaning) (z : Sizes) (ws : List ℤ) (y : Bool) → m.weighting.stations ≡ suc m.span → z ≡ sizes_of m → y ≡ m.symmetric → Holds ws m.weighting.weight → telling z.span z.denominator z.degree y z.ceiling (λ s. get_or ws s (pos 0)) ≡ m
tells_made m z ws y st ez ey h = λ i. record {
  weighting =
      record {
        stations = (ap (λ t. suc t.span) ez ∙ sym st) i;
        weight = λ s. h s i;
        denominator = (ez i).denominator;
        ceiling = (ez i).ceiling;
      };
  span = (ez i).span;
  degree = (ez i).degree;
  symmetric = ey i;
}

made_stations : (l : Layer) (r : Meaning) → (made l r).weighting.stations ≡ suc (made l r).span
made_stations (Panels m) r = refl
made_stations (Stretch k) r = refl
made_stations Mirror r = refl
made_stations Refinement r = refl
made_stations LowestTerms r = refl

-- the sizes that a layer asks for, with the weights that it makes, are what it makes
module _ (l : Layer) (p : ℕ) (r : Meaning) (z : Sizes) (ws : List ℤ) (y : Bool) (ok : sizing l p r ≡ Ok z) (same : y ≡ (made l r).symmetric) (holds : Holds ws (made l r).weighting.weight) where
  tells : telling z.span z.denominator z.degree y z.ceiling (λ s. get_or ws s (pos 0)) ≡ made l r
  tells = tells_made (made l r) z ws y (made_stations l r) (sizing_ok l p r z ok).1 same holds

  pub table_sound : Sound r → Sound (telling z.span z.denominator z.degree y z.ceiling (λ s. get_or ws s (pos 0)))
  table_sound sound = subst Sound (sym tells) (made_sound l r sound (sizing_ok l p r z ok).0)

  pub table_made : (t : Meaning) → t ≡ telling z.span z.denominator z.degree y z.ceiling (λ s. get_or ws s (pos 0)) → ◌≡◌ {A = Result Meaning Fault} (Ok t) (making l p r)
  table_made t e = ap (λ m. Ok m) (e ∙ tells) ∙ sym (making_accepted l p r (sizing_ok l p r z ok).0)

-- the same for the rule itself, which nothing refuses
pub tells_sound : (m : Meaning) (z : Sizes) (ws : List ℤ) (y : Bool) → Sound m → z ≡ sizes_of m → y ≡ m.symmetric → Holds ws m.weighting.weight → Sound (telling z.span z.denominator z.degree y z.ceiling (λ s. get_or ws s (pos 0)))
tells_sound m z ws y sound ez ey h = subst Sound (sym (tells_made m z ws y sound.span.stations ez ey h)) sound
