-- What two cases come to, from their bytes.
use Rattle.std.specs.Prelude.{ℕ, List, Ok, Option, Result}
use Rattle.rules.specs.Faults.{carried}
use Rattle.rules.specs.declared.fault.Fault.{Fault}
use Rattle.layers.specs.Layers.{piling}
use Rattle.sources.specs.Surveys.{survey_of}
use Rattle.runs.specs.Ledger.{blank, loading, step}
use Rattle.runs.specs.declared.verdict.Verdict.{Verdict}
use Rattle.claims.specs.Laws.{verdict_between}
use Rattle.claims.specs.Replays.{Account}
use Rattle.session.specs.Orders.{Parts, base_of, layers_of, order_of}

-- the pile that is ordered, and the ledger of a new run over it with the survey loaded
abbrev pub account_of_case : (order survey : List ℕ) → Result Account Fault
account_of_case order survey =
    carried (order_of order)
    (λ parts.
    carried (piling (layers_of parts) 1 (base_of parts))
    (λ pile. carried (survey_of survey) (λ readings. Ok (record { pile = pile; ledger = step pile blank (loading readings) }))))

-- the same where the order is read
abbrev pub account_of_order : Parts → (survey : List ℕ) → Result Account Fault
account_of_order parts survey =
    carried (piling (layers_of parts) 1 (base_of parts))
    (λ pile. carried (survey_of survey) (λ readings. Ok (record { pile = pile; ledger = step pile blank (loading readings) })))

-- the verdict on the two piles and their ledgers; none where an order, a pile or a survey is refused
abbrev pub verdict_on_bytes : (first_order first_survey second_order second_survey : List ℕ) → Option (Result Verdict Fault)
verdict_on_bytes first_order first_survey second_order second_survey =
    verdict_between (account_of_case first_order first_survey) (account_of_case second_order second_survey)
