-- What each layer makes of the rule below it, and when it is refused.
use Rattle.std.specs.Prelude.{ℕ, suc, ◌+◌, ◌-◌, ◌*◌, ◌/◌, ◌^◌, Bool, false, cond, ◌||◌, List, [], ◌∷◌, Some, None, Ok, Err, Option, Result, ◌==◌, nat_lt, slice_index}
use Rattle.algebra.specs.Divisors.{common_divisor}
use Rattle.algebra.specs.Weights.{panel_weight, stretch_weight, mirror_weight, refine_weight, reduce_weight}
use Rattle.rules.specs.Faults.{carried}
use Rattle.rules.specs.Meaning.{Meaning, telling}
use Rattle.rules.specs.declared.fault.Fault.{Fault}
use Rattle.rules.specs.declared.fault.Cause.{Cause}
use Rattle.rules.specs.declared.fault.Cause.TheVariants.{CountZero, SpanLimit, DegreeLimit, SizeLimit}
use Rattle.rules.specs.declared.fault.Origin.TheVariants.{Layer as FromLayer}
use Rattle.layers.specs.declared.layer.Layer.{Layer}
use Rattle.layers.specs.declared.layer.Layer.TheVariants.{Panels, Stretch, Mirror, Refinement, LowestTerms}

-- m copies side by side
abbrev pub panelled : ℕ → Meaning → Meaning
panelled m r =
    telling (m * r.span) r.weighting.denominator r.degree r.symmetric (m * r.weighting.ceiling)
    (panel_weight m r.span r.weighting.weight)

-- k times as long
abbrev pub stretched : ℕ → Meaning → Meaning
stretched k r =
    telling (k * r.span) r.weighting.denominator r.degree r.symmetric (k * r.weighting.ceiling)
    (stretch_weight k r.weighting.weight)

-- read from the other end
abbrev pub mirrored : Meaning → Meaning
mirrored r =
    telling r.span r.weighting.denominator r.degree r.symmetric r.weighting.ceiling
    (mirror_weight r.span r.weighting.weight)

-- the refinement factor of a degree, 0 to 10
unfoldable pub factor : ℕ → ℕ
factor d = slice_index (2 ∷ 4 ∷ 8 ∷ 16 ∷ 32 ∷ 64 ∷ 128 ∷ 256 ∷ 512 ∷ 1024 ∷ 2048 ∷ []) d

-- Richardson's refinement with the factor of the degree below
abbrev pub refined : Meaning → Meaning
refined r =
    telling (2 * r.span) (r.weighting.denominator * (factor r.degree - 1)) (cond r.symmetric (r.degree + 2) (r.degree + 1))
    r.symmetric ((2 * factor r.degree + 2) * r.weighting.ceiling)
    (refine_weight (factor r.degree) r.span r.weighting.weight)

-- the greatest common divisor of the denominator and all weights
abbrev pub divisor_of : Meaning → ℕ
divisor_of r = common_divisor r.weighting.denominator (suc r.span) r.weighting.weight

-- divided by that divisor; the ceiling is rounded down
abbrev pub reduced : Meaning → Meaning
reduced r =
    telling r.span (r.weighting.denominator / divisor_of r) r.degree r.symmetric (r.weighting.ceiling / divisor_of r)
    (reduce_weight (divisor_of r) r.weighting.weight)

-- what a layer makes, whether or not it is accepted
abbrev pub made : Layer → Meaning → Meaning
made (Panels m) r = panelled m r
made (Stretch k) r = stretched k r
made Mirror r = mirrored r
made Refinement r = refined r
made LowestTerms r = reduced r

-- a layer with a count of 0
abbrev pub countless : Layer → Bool
countless (Panels m) = m == 0
countless (Stretch k) = k == 0
countless Mirror = false
countless Refinement = false
countless LowestTerms = false

-- the first check that a rule's sizes fail: span at most 1,024, degree at most 11, ceiling at most 2^40 and denominator at most 2^31
abbrev pub oversize : (span degree ceiling denominator : ℕ) → Option Cause
oversize l n c d =
    cond (nat_lt 1024 l) (Some SpanLimit)
    (cond (nat_lt 11 n) (Some DegreeLimit) (cond (nat_lt (2 ^ 40) c || nat_lt (2 ^ 31) d) (Some SizeLimit) None))

-- why a layer is refused, none where it is accepted
abbrev pub refusal : Layer → Meaning → Option Cause
refusal l r =
    cond (countless l) (Some CountZero)
    (oversize (made l r).span (made l r).degree (made l r).weighting.ceiling (made l r).weighting.denominator)

abbrev pub accepted_or : {A : Type 0} → Option Cause → A → (Cause → A) → A
accepted_or None a f = a
accepted_or (Some c) a f = f c

-- the rule with the layer on it; a layer that is refused leaves the rule below
abbrev pub laid : Layer → Meaning → Meaning
laid l r = accepted_or (refusal l r) (made l r) (λ _. r)

-- a refusal by a layer at a place
abbrev pub at_place : ℕ → Cause → Fault
at_place p c = record { cause = c; layer = FromLayer; place = p }

-- whether sizes are admitted
abbrev pub admission : (span degree ceiling denominator place : ℕ) → Result (Unit {0}) Fault
admission l n c d p = accepted_or (oversize l n c d) (Ok tt) (λ e. Err (at_place p e))

-- what a making replies: the rule that the layer makes, or its refusal at a place
abbrev pub making : Layer → ℕ → Meaning → Result Meaning Fault
making l p r = accepted_or (refusal l r) (Ok (made l r)) (λ e. Err (at_place p e))

-- what the making of a list of layers replies, the first at place p
abbrev pub piling : List Layer → ℕ → Meaning → Result Meaning Fault
piling [] p r = Ok r
piling (l ∷ ls) p r = carried (making l p r) (λ m. piling ls (p + 1) m)

-- the rule with a list of layers on it, each that is refused left out
abbrev pub piled : List Layer → Meaning → Meaning
piled [] r = r
piled (l ∷ ls) r = piled ls (laid l r)

-- the rule with the layers of a list up to the first that is refused
abbrev pub reached : List Layer → Meaning → Meaning
reached [] r = r
reached (l ∷ ls) r = accepted_or (refusal l r) (reached ls (made l r)) (λ _. r)
