use Rattle.std.proofs.Common.{◌∙◌}
use Rattle.layers.specs.Layers.{piling}
use Rattle.session.specs.Orders.{base_of, layers_of, parts}
use Rattle.pairs.specs.Accounts.{account_of_order}
use Rattle.pairs.proofs.Accounts.{no_survey}
use Rattle.pairs.proofs.cases.settled.Goals as goal

pub returns-in_err-ok : goal.returns-in_err-ok
returns-in_err-ok c =
    let first = parts c.args.first in
    let other = account_of_order (parts c.args.second) c.args.pair.second.survey.now in
    c.from_residual.ensures ∙ no_survey c.read.result (piling (layers_of first) 1 (base_of first)) other c.read.ensures c.in_err-ok.ensures.value
