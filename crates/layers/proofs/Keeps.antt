-- What an accepted layer makes of a rule keeps the promises of a rule.
use Rattle.std.proofs.Common.{◌≡◌, ℕ, zero, suc, ◌+◌, ◌-◌, ◌*◌, ◌/◌, ◌%◌, ◌^◌, ◌≤◌, Bool, true, false, cond, ◌&&◌, ◌||◌, eqb, ltb, ℤ, pos, ◌≤ℤ◌, Some, None, Ok, Err, Option, Result, refl, ◌∙◌, subst, mul-le-mul_left, div-le_self, arith}
use native.Mathlib.Nat.{one-le-pow, two-pow-succ}
use Rattle.std.proofs.lemmas.Bool.{cond-false, eqb-false, le-ltb, ltb-false, or_from, or_parts}
use Rattle.std.proofs.lemmas.Bool.Decides.{Decides-below_and, Decides-eqb}
use Rattle.algebra.specs.Sums.{sum, abs}
use Rattle.algebra.specs.Weights.{Exact, Mirrored, ZeroBeyond, refine_weight}
use Rattle.algebra.proofs.Moments.{exact_panels, exact_stretch, exact_mirror, exact_refined, exact_refined_twice, exact_reduced}
use Rattle.algebra.proofs.Rows.{panel_beyond, stretch_beyond, mirror_beyond, refine_beyond, reduce_beyond, panel_mirrored, stretch_mirrored, mirror_mirrored, refine_mirrored, reduce_mirrored}
use Rattle.algebra.proofs.Absolute.{absolute_panels, absolute_stretch, absolute_mirror, absolute_refined, absolute_reduced}
use Rattle.algebra.proofs.Divisors.{common_divisor_positive, common_divisor_weights, common_divisor_denominator, reduced_denominator_positive, reduced_denominator_bounded}
use Rattle.rules.specs.Meaning.{Meaning, Sound}
use Rattle.rules.specs.declared.fault.Fault.{Fault}
use Rattle.rules.specs.declared.fault.Cause.{Cause}
use Rattle.rules.specs.declared.fault.Cause.TheVariants.{CountZero, SpanLimit, DegreeLimit, SizeLimit}
use Rattle.rules.specs.declared.fault.Origin.TheVariants.{Layer as FromLayer}
use Rattle.layers.specs.Layers.{factor, panelled, stretched, mirrored, refined, reduced, divisor_of, made, countless, oversize, refusal, accepted_or, laid, making}
use Rattle.layers.specs.declared.layer.Layer.{Layer}
use Rattle.layers.specs.declared.layer.Layer.TheVariants.{Panels, Stretch, Mirror, Refinement, LowestTerms}

-- the table of factors holds the powers of two, at each degree below n
abbrev powers_below : ℕ → Bool
powers_below zero = true
powers_below (suc n) = eqb (factor n) (2 ^ suc n) && powers_below n

table_passes : powers_below 11 ≡ true
unfolding factor
table_passes = refl

pub factor_is : (d : ℕ) → d ≤ 10 → factor d ≡ 2 ^ suc d
factor_is d h =
    (Decides-below_and (λ k. eqb (factor k) (2 ^ suc k)) (λ k. factor k ≡ 2 ^ suc k) powers_below
    (λ k. Decides-eqb (factor k) (2 ^ suc k)) refl (λ _. refl) 11).0 table_passes d (omega arith)

-- a check that is passed
passed : (b : Bool) (c : Cause) (o : Option Cause) → cond b (Some c) o ≡ None → (b ≡ false) × (o ≡ None)
passed true c o e = (cc, cc)
passed false c o e = (refl, e)

pub accepted_sizes : (l : Layer) (r : Meaning) → refusal l r ≡ None → (countless l ≡ false) × ((made l r).span ≤ 1024) × ((made l r).degree ≤ 11) × ((made l r).weighting.ceiling ≤ 2 ^ 40) × ((made l r).weighting.denominator ≤ 2 ^ 31)
accepted_sizes l r e =
    let count = passed (countless l) CountZero _ e in
    let span = passed (ltb 1024 (made l r).span) SpanLimit _ count.1 in
    let degree = passed (ltb 11 (made l r).degree) DegreeLimit _ span.1 in
    let sizes = passed (ltb (2 ^ 40) (made l r).weighting.ceiling || ltb (2 ^ 31) (made l r).weighting.denominator) SizeLimit None degree.1 in
    let both = or_parts (ltb (2 ^ 40) (made l r).weighting.ceiling) _ sizes.0 in
    (count.0, ltb-false _ _ span.0, ltb-false _ _ degree.0, ltb-false _ _ both.0, ltb-false _ _ both.1)

-- a rule within its sizes is not refused for them
not_oversize : (l n c d : ℕ) → l ≤ 1024 → n ≤ 11 → c ≤ 2 ^ 40 → d ≤ 2 ^ 31 → oversize l n c d ≡ None
not_oversize l n c d p q u v =
    cond-false _ _ _ (le-ltb 1024 l p) ∙ cond-false _ _ _ (le-ltb 11 n q)
    ∙ cond-false _ _ _ (or_from _ _ (le-ltb (2 ^ 40) c u) (le-ltb (2 ^ 31) d v))

pub mirror_accepted : (r : Meaning) → Sound r → refusal Mirror r ≡ None
mirror_accepted r h =
    not_oversize r.span r.degree r.weighting.ceiling r.weighting.denominator
    h.span.most h.exact.most h.ceiling.most h.denominator.most

pub lowest_terms_accepted : (r : Meaning) → Sound r → refusal LowestTerms r ≡ None
lowest_terms_accepted r h =
    not_oversize r.span r.degree (r.weighting.ceiling / divisor_of r) (r.weighting.denominator / divisor_of r)
    h.span.most h.exact.most
    (omega (arith, h.ceiling.most, div-le_self r.weighting.ceiling (divisor_of r)))
    (omega (arith, h.denominator.most, reduced_denominator_bounded r.weighting.denominator (suc r.span) r.weighting.weight))

-- the sum of the absolute weights over the stations 0 to the span
ceiling_holds : (r : Meaning) → Sound r → sum (suc r.span) (λ s. abs (r.weighting.weight s)) ≤ℤ pos r.weighting.ceiling
ceiling_holds r h =
    let P : ℕ → Type 0 = λ n. sum n (λ s. abs (r.weighting.weight s)) ≤ℤ pos r.weighting.ceiling in
    subst P h.span.stations h.ceiling.bounded

-- a span times a positive count is positive
longer : (m L : ℕ) → 1 ≤ m → 1 ≤ L → 1 ≤ m * L
longer m L p q = omega (arith, mul-le-mul_left m q)

panelled_sound : (m : ℕ) (r : Meaning) → Sound r → 1 ≤ m → m * r.span ≤ 1024 → m * r.weighting.ceiling ≤ 2 ^ 40 → Sound (panelled m r)
panelled_sound m r h p short low =
    let L = r.span in
    let W = r.weighting.weight in
    let z = h.beyond in
    record {
      span = record { least = longer m L p h.span.least; most = short; stations = refl };
      denominator = record { least = h.denominator.least; most = h.denominator.most };
      beyond = panel_beyond m L W z;
      ceiling = record { bounded = absolute_panels L r.weighting.ceiling W z (ceiling_holds r h) m; most = low };
      exact = record { most = h.exact.most; exact = exact_panels m L r.weighting.denominator r.degree W z h.exact.exact };
      symmetry = record { mirrored = λ y. panel_mirrored m L W z (h.symmetry.mirrored y); odd = h.symmetry.odd };
    }

stretched_sound : (k : ℕ) (r : Meaning) → Sound r → 1 ≤ k → k * r.span ≤ 1024 → k * r.weighting.ceiling ≤ 2 ^ 40 → Sound (stretched k r)
stretched_sound k r h p short low =
    let L = r.span in
    let W = r.weighting.weight in
    let z = h.beyond in
    record {
      span = record { least = longer k L p h.span.least; most = short; stations = refl };
      denominator = record { least = h.denominator.least; most = h.denominator.most };
      beyond = stretch_beyond k L W p z;
      ceiling = record { bounded = absolute_stretch L r.weighting.ceiling W z (ceiling_holds r h) k p; most = low };
      exact = record { most = h.exact.most; exact = exact_stretch k L r.weighting.denominator r.degree W p h.exact.exact };
      symmetry = record { mirrored = λ y. stretch_mirrored k L W p (h.symmetry.mirrored y); odd = h.symmetry.odd };
    }

mirrored_sound : (r : Meaning) → Sound r → Sound (mirrored r)
mirrored_sound r h =
    let L = r.span in
    let W = r.weighting.weight in
    record {
      span = record { least = h.span.least; most = h.span.most; stations = refl };
      denominator = record { least = h.denominator.least; most = h.denominator.most };
      beyond = mirror_beyond L W;
      ceiling = record { bounded = absolute_mirror L r.weighting.ceiling W h.beyond (ceiling_holds r h); most = h.ceiling.most };
      exact = record { most = h.exact.most; exact = exact_mirror L r.weighting.denominator r.degree W h.exact.exact };
      symmetry = record { mirrored = λ y. mirror_mirrored L W (h.symmetry.mirrored y); odd = h.symmetry.odd };
    }

-- the degree that refinement gains: the one below is in the table of factors, and an odd one stays odd
degree_below : (y : Bool) (d : ℕ) → cond y (d + 2) (d + 1) ≤ 11 → d ≤ 10
degree_below true d h = omega arith
degree_below false d h = omega arith

degree_odd : (y : Bool) (d : ℕ) → (y ≡ true → d % 2 ≡ 1) → y ≡ true → cond y (d + 2) (d + 1) % 2 ≡ 1
degree_odd true d odd e = omega (arith, odd refl)
degree_odd false d odd e = cc

exact_gained : (y : Bool) (F L D d : ℕ) (W : ℕ → ℤ) → ZeroBeyond L W → (y ≡ true → Mirrored L W) → (y ≡ true → d % 2 ≡ 1) → F ≡ 2 ^ suc d → Exact L W D d → Exact (2 * L) (refine_weight F L W) (D * (F - 1)) (cond y (d + 2) (d + 1))
exact_gained true F L D d W z m odd p e k h =
    exact_refined_twice F L D d W z (refine_mirrored F L W z (m refl)) (odd refl) p e k (omega arith)
exact_gained false F L D d W z m odd p e k h = exact_refined F L D d W z p e k (omega arith)

-- the refined denominator is positive
denominator_kept : (D F d : ℕ) → 1 ≤ D → F ≡ 2 ^ suc d → 1 ≤ D * (F - 1)
denominator_kept D F d h p = longer D (F - 1) h (omega (arith, two-pow-succ d, one-le-pow d 2 (omega arith)))

refined_sound : (r : Meaning) → Sound r → (refined r).span ≤ 1024 → (refined r).degree ≤ 11 → (refined r).weighting.ceiling ≤ 2 ^ 40 → (refined r).weighting.denominator ≤ 2 ^ 31 → Sound (refined r)
refined_sound r h short few low small =
    let L = r.span in
    let W = r.weighting.weight in
    let D = r.weighting.denominator in
    let d = r.degree in
    let z = h.beyond in
    let F = factor d in
    let power : F ≡ 2 ^ suc d = factor_is d (degree_below r.symmetric d few) in
    record {
      span = record { least = longer 2 L (omega arith) h.span.least; most = short; stations = refl };
      denominator = record { least = denominator_kept D F d h.denominator.least power; most = small };
      beyond = refine_beyond F L W z;
      ceiling = record { bounded = absolute_refined L r.weighting.ceiling W z (ceiling_holds r h) F; most = low };
      exact = record { most = few; exact = exact_gained r.symmetric F L D d W z h.symmetry.mirrored h.symmetry.odd power h.exact.exact };
      symmetry = record { mirrored = λ y. refine_mirrored F L W z (h.symmetry.mirrored y); odd = degree_odd r.symmetric d h.symmetry.odd };
    }

reduced_sound : (r : Meaning) → Sound r → (reduced r).weighting.ceiling ≤ 2 ^ 40 → (reduced r).weighting.denominator ≤ 2 ^ 31 → Sound (reduced r)
reduced_sound r h low small =
    let L = r.span in
    let W = r.weighting.weight in
    let D = r.weighting.denominator in
    let z = h.beyond in
    let g = divisor_of r in
    let p : 1 ≤ g = common_divisor_positive D (suc L) W h.denominator.least in
    let each = common_divisor_weights D L W z in
    record {
      span = record { least = h.span.least; most = h.span.most; stations = refl };
      denominator = record { least = reduced_denominator_positive D (suc L) W h.denominator.least; most = small };
      beyond = reduce_beyond g L W z;
      ceiling = record { bounded = absolute_reduced L r.weighting.ceiling W z (ceiling_holds r h) g p each; most = low };
      exact = record { most = h.exact.most; exact = exact_reduced g L D r.degree W p each (common_divisor_denominator D (suc L) W) h.exact.exact };
      symmetry = record { mirrored = λ y. reduce_mirrored g L W (h.symmetry.mirrored y); odd = h.symmetry.odd };
    }

-- a count that is not 0
positive : (n : ℕ) → eqb n 0 ≡ false → 1 ≤ n
positive n e = omega (arith, eqb-false n 0 e)

pub made_sound : (l : Layer) (r : Meaning) → Sound r → refusal l r ≡ None → Sound (made l r)
made_sound (Panels m) r h e =
    let fits = accepted_sizes (Panels m) r e in
    panelled_sound m r h (positive m fits.0) fits.1 fits.3
made_sound (Stretch k) r h e =
    let fits = accepted_sizes (Stretch k) r e in
    stretched_sound k r h (positive k fits.0) fits.1 fits.3
made_sound Mirror r h e = mirrored_sound r h
made_sound Refinement r h e =
    let fits = accepted_sizes Refinement r e in
    refined_sound r h fits.1 fits.2 fits.3 fits.4
made_sound LowestTerms r h e =
    let fits = accepted_sizes LowestTerms r e in
    reduced_sound r h fits.3 fits.4

-- a layer that is refused leaves the rule below
accepted_sound : (o : Option Cause) (m r : Meaning) → (o ≡ None → Sound m) → Sound r → Sound (accepted_or o m (λ _. r))
accepted_sound None m r h k = h refl
accepted_sound (Some c) m r h k = k

pub laid_sound : (l : Layer) (r : Meaning) → Sound r → Sound (laid l r)
laid_sound l r h = accepted_sound (refusal l r) (made l r) r (made_sound l r h) h

-- a making that replies with a rule was accepted
accepted_ok : (o : Option Cause) (x m : Meaning) (f : Cause → Fault) → accepted_or {A = Result Meaning Fault} o (Ok x) (λ c. Err (f c)) ≡ Ok m → (o ≡ None) × (m ≡ x)
accepted_ok None x m f e = (refl, cc)
accepted_ok (Some c) x m f e = (cc, cc)

pub making_ok : (l : Layer) (p : ℕ) (r : Meaning) (m : Meaning) → making l p r ≡ Ok m → (refusal l r ≡ None) × (m ≡ made l r)
making_ok l p r m e = accepted_ok (refusal l r) (made l r) m (λ c. record { cause = c; layer = FromLayer; place = p }) e
