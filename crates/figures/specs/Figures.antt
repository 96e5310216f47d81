-- What rules, polynomials and runs tell, in numbers.
use Rattle.std.specs.Prelude.{ℕ, zero, suc, ◌*◌, Bool, true, false, cond, List, [], ◌∷◌, ℤ, pos, negsuc, Some, None, Ok, Err, Option, Result, nat_le}
use Rattle.std.specs.Result.{result_map_both}
use Rattle.rules.specs.BuiltIn.{meaning_of_row, row_of}
use Rattle.rules.specs.Meaning.{Meaning}
use Rattle.rules.specs.declared.built_in.BuiltIn.TheVariants.{LeftRectangle, Midpoint, Simpson, Trapezoid}
use Rattle.rules.specs.declared.fault.Cause.TheVariants.{NotExact}
use Rattle.rules.specs.declared.fault.Fault.{Fault}
use Rattle.rules.specs.declared.fault.Origin.TheVariants.{Rule as RuleLayer}
use Rattle.rules.specs.Written.{loading}
use Rattle.layers.specs.Layers.{making, panelled, piling}
use Rattle.layers.specs.declared.layer.Layer.TheVariants.{Panels, Mirror, Refinement, LowestTerms}
use Rattle.sources.specs.Polynomials.{polynomial_at}
use Rattle.sources.specs.Searches.{value_of}
use Rattle.runs.specs.Ledger.{Ledger, result_of}
use Rattle.runs.specs.Verdicts.{verdict_of}
use Rattle.runs.specs.declared.estimate.Estimate.{Estimate}
use Rattle.runs.specs.declared.verdict.Verdict.{Verdict}
use Rattle.runs.specs.declared.verdict.Verdict.TheVariants.{Apart, Meet}
use Rattle.figures.specs.Tables.{AllTell, Row}

-- the numbers that a rule tells; the weights are those at the stations 0 to the span
pub record Figures : Type 0 where
  pub weights : List ℤ
  pub denominator : ℕ
  pub span : ℕ
  pub degree : ℕ
  pub ceiling : ℕ
  pub symmetric : Bool

-- W(0), W(1), .. W(n-1)
abbrev pub listed : ℕ → (ℕ → ℤ) → List ℤ
listed zero W = []
listed (suc n) W = W 0 ∷ listed n (λ s. W (suc s))

abbrev pub figures_of : Meaning → Figures
figures_of m = record {
  weights = listed m.weighting.stations m.weighting.weight;
  denominator = m.weighting.denominator;
  span = m.span;
  degree = m.degree;
  ceiling = m.weighting.ceiling;
  symmetric = m.symmetric;
}

-- the figures of the rule that a making replies with
abbrev pub reply_figures : Result Meaning Fault → Result Figures Fault
reply_figures = result_map_both figures_of (λ e. e)

abbrev pub trapezoid : Meaning
trapezoid = meaning_of_row (row_of Trapezoid)

abbrev pub midpoint : Meaning
midpoint = meaning_of_row (row_of Midpoint)

abbrev pub left_rectangle : Meaning
left_rectangle = meaning_of_row (row_of LeftRectangle)

abbrev pub simpson_weights : List ℤ
simpson_weights = pos 1 ∷ pos 4 ∷ pos 1 ∷ []

abbrev pub rules_made : List (Row (Result Meaning Fault) (Result Figures Fault))
rules_made =
    -- the trapezoid, refined
    record {
      subject = making Refinement 0 trapezoid;
      told = Ok (record { weights = pos 2 ∷ pos 8 ∷ pos 2 ∷ []; denominator = 6; span = 2; degree = 3; ceiling = 20; symmetric = true });
    } ∷
    -- the trapezoid, refined twice
    record {
      subject = piling (Refinement ∷ Refinement ∷ []) 1 trapezoid;
      told = Ok (record { weights = pos 28 ∷ pos 128 ∷ pos 48 ∷ pos 128 ∷ pos 28 ∷ []; denominator = 90; span = 4; degree = 5; ceiling = 680; symmetric = true });
    } ∷
    -- the same in lowest terms
    record {
      subject = piling (Refinement ∷ Refinement ∷ LowestTerms ∷ []) 1 trapezoid;
      told = Ok (record { weights = pos 14 ∷ pos 64 ∷ pos 24 ∷ pos 64 ∷ pos 14 ∷ []; denominator = 45; span = 4; degree = 5; ceiling = 340; symmetric = true });
    } ∷
    -- the midpoint rule, refined
    record {
      subject = making Refinement 0 midpoint;
      told = Ok (record { weights = pos 0 ∷ pos 8 ∷ negsuc 3 ∷ pos 8 ∷ pos 0 ∷ []; denominator = 3; span = 4; degree = 3; ceiling = 20; symmetric = true });
    } ∷
    -- the left rectangle, refined: its weights are mirrored, and it is not told symmetric
    record {
      subject = making Refinement 0 left_rectangle;
      told = Ok (record { weights = pos 0 ∷ pos 2 ∷ pos 0 ∷ []; denominator = 1; span = 2; degree = 1; ceiling = 6; symmetric = false });
    } ∷
    -- the left rectangle, in 3 panels
    record {
      subject = making (Panels 3) 0 left_rectangle;
      told = Ok (record { weights = pos 1 ∷ pos 1 ∷ pos 1 ∷ pos 0 ∷ []; denominator = 1; span = 3; degree = 0; ceiling = 3; symmetric = false });
    } ∷
    -- the left rectangle, mirrored
    record {
      subject = making Mirror 0 left_rectangle;
      told = Ok (record { weights = pos 0 ∷ pos 1 ∷ []; denominator = 1; span = 1; degree = 0; ceiling = 1; symmetric = false });
    } ∷
    -- the weights 1, 4, 1 over 3, written with degree 2: symmetric, so the degree told is 3
    record {
      subject = loading simpson_weights 3 2;
      told = Ok (record { weights = pos 1 ∷ pos 4 ∷ pos 1 ∷ []; denominator = 3; span = 2; degree = 3; ceiling = 6; symmetric = true });
    } ∷
    -- the same with degree 4: the power 4 is not integrated exactly
    record { subject = loading simpson_weights 3 4; told = Err (record { cause = NotExact; layer = RuleLayer; place = 4 }) } ∷
    []

-- a polynomial by its coefficients, and a station
pub record Reading : Type 0 where
  pub coefficients : List ℤ
  pub station : ℕ

abbrev pub reading_of : Reading → Option ℤ
reading_of r = polynomial_at (value_of r.coefficients) r.station

abbrev pub polynomials_read : List (Row Reading (Option ℤ))
polynomials_read =
    -- x² at the last station is the largest reading there is
    record { subject = record { coefficients = pos 0 ∷ pos 0 ∷ pos 1 ∷ []; station = 1024 }; told = Some (pos 1048576) } ∷
    -- 1 + x² is beyond it
    record { subject = record { coefficients = pos 1 ∷ pos 0 ∷ pos 1 ∷ []; station = 1024 }; told = None } ∷
    -- a partial sum may leave the range and come back
    record { subject = record { coefficients = negsuc 19 ∷ pos 1048576 ∷ pos 10 ∷ []; station = 1 }; told = Some (pos 1048566) } ∷
    []

-- the readings 0, 1, 4 at the stations 0, 1, 2
abbrev pub squares : ℕ → Option ℤ
squares s = cond (nat_le s 2) (Some (pos (s * s))) None

abbrev pub squares_within : ℕ → Ledger
squares_within e = record { readings = record { reading = squares; tolerance = e }; published = false }

-- a rule and a tolerance over these readings
pub record Run : Type 0 where
  pub rule : Meaning
  pub tolerance : ℕ

abbrev pub result_figures : Run → Result Estimate Fault
result_figures r = result_of r.rule (squares_within r.tolerance).readings

abbrev pub two_panels : Meaning
two_panels = panelled 2 trapezoid

abbrev pub simpson : Meaning
simpson = meaning_of_row (row_of Simpson)

abbrev pub results : List (Row Run (Result Estimate Fault))
results =
    -- the trapezoid in two panels, and Simpson's rule, over readings that are exact
    record { subject = record { rule = two_panels; tolerance = 0 }; told = Ok (record { value = (pos 6, 2); radius = pos 0; degree = 1 }) } ∷
    record { subject = record { rule = simpson; tolerance = 0 }; told = Ok (record { value = (pos 8, 3); radius = pos 0; degree = 3 }) } ∷
    -- the same within 1
    record { subject = record { rule = two_panels; tolerance = 1 }; told = Ok (record { value = (pos 6, 2); radius = pos 4; degree = 1 }) } ∷
    record { subject = record { rule = simpson; tolerance = 1 }; told = Ok (record { value = (pos 8, 3); radius = pos 6; degree = 3 }) } ∷
    []

-- the verdict on those two rules, where both runs have the same tolerance
abbrev pub verdict_within : ℕ → Result Verdict Fault
verdict_within e = verdict_of two_panels (squares_within e) simpson (squares_within e)

abbrev pub verdicts : List (Row ℕ (Result Verdict Fault))
verdicts = record { subject = 0; told = Ok Apart } ∷ record { subject = 1; told = Ok Meet } ∷ []

-- each table holds
pub record FiguresHold : Type 0 where
  pub rules : AllTell reply_figures rules_made
  pub polynomials : AllTell reading_of polynomials_read
  pub runs : AllTell result_figures results
  pub verdict : AllTell verdict_within verdicts
