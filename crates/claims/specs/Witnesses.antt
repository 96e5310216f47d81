-- Figures that meet what the laws suppose, so that no law holds for want of a case.
use Rattle.std.specs.Prelude.{◌≡◌, ℕ, zero, suc, List, [], ◌∷◌, ℤ, pos, ◌*ℤ◌, Some, None, Ok, Option}
use Rattle.rules.specs.BuiltIn.{meaning_of_row, row_of}
use Rattle.rules.specs.Meaning.{Meaning}
use Rattle.rules.specs.declared.built_in.BuiltIn.{BuiltIn}
use Rattle.rules.specs.declared.built_in.BuiltIn.TheVariants.{Simpson, Trapezoid}
use Rattle.layers.specs.Layers.{piled, piling}
use Rattle.layers.specs.declared.layer.Layer.{Layer}
use Rattle.layers.specs.declared.layer.Layer.TheVariants.{Panels, Refinement, Stretch}
use Rattle.runs.specs.Fractions.{Fraction}
use Rattle.runs.specs.Ledger.{Ledger, loading, result_of}
use Rattle.runs.specs.Verdicts.{inside, verdict_of}
use Rattle.runs.specs.declared.estimate.Estimate.{Estimate}
use Rattle.runs.specs.declared.verdict.Verdict.TheVariants.{Apart, Meet}
use Rattle.claims.specs.Histories.{ledger_after}
use Rattle.claims.specs.Polynomials.{Fits, OfDegree, Polynomial, integral}

-- the readings of a list at the stations from 0 on
abbrev pub reading_in : List ℤ → ℕ → Option ℤ
reading_in [] s = None
reading_in (v ∷ vs) zero = Some v
reading_in (v ∷ vs) (suc s) = reading_in vs s

-- the ledger of one load of them over the rule m
abbrev pub loaded : Meaning → List ℤ → (tolerance : ℕ) → Ledger
loaded m vs e = ledger_after m (loading (record { reading = reading_in vs; tolerance = e }) ∷ [])

abbrev pub built_in : BuiltIn → Meaning
built_in b = meaning_of_row (row_of b)

-- the trapezoid refined, at its own length, in two panels
abbrev pub layers_there : List Layer
layers_there = Refinement ∷ Stretch 1 ∷ Panels 2 ∷ []

abbrev pub pile_there : Meaning
pile_there = piled layers_there (built_in Trapezoid)

-- it reads x³ at 0, 1, 2, 3 and 4, each within 1
abbrev pub ledger_there : Ledger
ledger_there = loaded pile_there (pos 0 ∷ pos 1 ∷ pos 8 ∷ pos 27 ∷ pos 64 ∷ []) 1

-- 384/6, at most 24/6 off
abbrev pub result_there : Estimate
result_there = record { value = (pos 384, 6); radius = pos 24; degree = 3 }

abbrev pub cube : Polynomial
cube = record { coefficients = pos 0 ∷ pos 0 ∷ pos 0 ∷ pos 1 ∷ []; denominator = 1 }

-- the integral of x³ from 0 to the span 4
abbrev pub integral_there : Fraction
integral_there = integral cube pile_there.span

-- a pile, a ledger and a polynomial that meet all that the law of the band supposes, and the band
pub record BandHasACase : Type 0 where
  pub made : piling layers_there 1 (built_in Trapezoid) ≡ Ok pile_there
  pub span : pile_there.span ≡ 4
  pub degree : pile_there.degree ≡ 3
  pub result : result_of pile_there ledger_there.readings ≡ Ok result_there
  pub of_degree : OfDegree pile_there.degree cube
  pub fits : Fits cube ledger_there.readings
  pub integral_is : integral_there.numerator ≡ pos 64 *ℤ pos integral_there.denominator
  pub within : inside integral_there result_there

-- the trapezoid in two panels and Simpson's rule, both over the span 2, read 0, 1 and 4
abbrev pub two_panels : Meaning
two_panels = piled (Panels 2 ∷ []) (built_in Trapezoid)

abbrev pub squares : List ℤ
squares = pos 0 ∷ pos 1 ∷ pos 4 ∷ []

-- their results 6/2 and 8/3 are apart where the readings are exact, and meet where each may be 1 off
pub record VerdictsHaveCases : Type 0 where
  pub spans : two_panels.span ≡ (built_in Simpson).span
  pub apart : verdict_of two_panels (loaded two_panels squares 0) (built_in Simpson) (loaded (built_in Simpson) squares 0) ≡ Ok Apart
  pub meet : verdict_of two_panels (loaded two_panels squares 1) (built_in Simpson) (loaded (built_in Simpson) squares 1) ≡ Ok Meet

abbrev pub LawsHaveCases : Type 0
LawsHaveCases = BandHasACase × VerdictsHaveCases
