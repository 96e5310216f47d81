use Rattle.std.proofs.Common.{◌≡◌, ◌+◌, true, false, ap, ◌∙◌, add-one, rules, tests}
use Rattle.std.proofs.lemmas.Iterator.{first_from_Range}
use Rattle.rules.specs.Written.{first_failing, integrates}
use Rattle.rules.proofs.Loading.{failing_first}
use Rattle.rules.proofs.written.checks.Listed.first_inexact.Goals as goal

pub returns : goal.returns
returns c =
    let test = integrates c.args.self.now.weights.now c.args.self.now.denominator in
    failing_first (c.args.self.now.degree + 1) test _
    (first_from_Range _ _ _ _ (λ k. test k ≡ false) (λ k. test k ≡ true) c.find.ensures.ran (λ x q k. search (rules, tests)) (λ x q k. search (rules, tests)))
    ∙ ap (λ n. first_failing n test) (add-one c.args.self.now.degree)
