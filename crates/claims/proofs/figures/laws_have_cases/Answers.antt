use Rattle.claims.proofs.Witnesses.{laws_have_cases_lem}
use Rattle.claims.proofs.figures.laws_have_cases.Goals as goal

pub returns-clause-cases : goal.returns-clause-cases
returns-clause-cases c = laws_have_cases_lem
