-- What a session tells, and what it leaves in the buffer.
use Rattle.std.specs.Prelude.{ℕ, List, Some, None, Ok, Err, Result}
use Rattle.rules.specs.Faults.{carried}
use Rattle.rules.specs.declared.fault.Fault.{Fault}
use Rattle.layers.specs.Layers.{piling}
use Rattle.sources.specs.Surveys.{survey_of}
use Rattle.runs.specs.Ledger.{blank, loading, result_of, step}
use Rattle.runs.specs.declared.estimate.Estimate.{Estimate}
use Rattle.report.specs.Reports.{Outcome, delivered, line_of_fault, line_of_result}
use Rattle.session.specs.Orders.{base_of, layers_of, order_of}

-- the result of a new run over the pile that is ordered, with the survey loaded, or the first refusal: of the order, of a layer from the bottom, of the survey, of the result
abbrev pub estimated : (order survey : List ℕ) → Result Estimate Fault
estimated order survey =
    carried (order_of order)
    (λ parts.
    carried (piling (layers_of parts) 1 (base_of parts))
    (λ pile. carried (survey_of survey) (λ readings. result_of pile (step pile blank (loading readings)).readings)))

-- the line of a result or of a refusal, in the buffer if it fits
abbrev pub reported : Result Estimate Fault → List ℕ → Outcome
reported (Ok e) before = delivered (line_of_result e.value.0 e.value.1 e.degree e.radius) None before
reported (Err f) before = delivered (line_of_fault f) (Some f) before
