-- The line of a verdict.
use Rattle.std.specs.Prelude.{ℕ, List, [], ◌∷◌, Some, None, Ok, Err, Option, Result}
use Rattle.rules.specs.declared.fault.Fault.{Fault}
use Rattle.runs.specs.declared.verdict.Verdict.{Verdict}
use Rattle.runs.specs.declared.verdict.Verdict.TheVariants.{Apart, Meet}
use Rattle.report.specs.Reports.{line_of_fault}

-- APART, MEET and NONE in ASCII, each with a newline; or the line of the refusal
abbrev pub line_of_verdict : Option (Result Verdict Fault) → List ℕ
line_of_verdict (Some (Ok Apart)) = 65 ∷ 80 ∷ 65 ∷ 82 ∷ 84 ∷ 10 ∷ []
line_of_verdict (Some (Ok Meet)) = 77 ∷ 69 ∷ 69 ∷ 84 ∷ 10 ∷ []
line_of_verdict (Some (Err f)) = line_of_fault f
line_of_verdict None = 78 ∷ 79 ∷ 78 ∷ 69 ∷ 10 ∷ []

-- the refusal that the line reports
abbrev pub fault_in : Option (Result Verdict Fault) → Option Fault
fault_in (Some (Ok v)) = None
fault_in (Some (Err f)) = Some f
fault_in None = None
