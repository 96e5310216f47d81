use Rattle.std.proofs.Common.{None, Some, refl}
use Rattle.pairs.proofs.Accounts.{read_is, verdict_is}
use Rattle.pairs.proofs.cases.verdict.Goals as goal

pub returns-in_err-first : goal.returns-in_err-first
returns-in_err-first c =
    let pair = c.args.pair in
    let first = read_is c.read.result None c.read.ensures c.in_err-first.ensures.value in
    let h = verdict_is pair.first.order.now pair.first.survey.now pair.second.order.now pair.second.survey.now _ _ _ first refl c.from_residual.ensures in
    record { value = h.0; law = h.1 }

pub returns-in_err-second : goal.returns-in_err-second
returns-in_err-second c =
    let pair = c.args.pair in
    let first = read_is c.read.result (Some c.in_ok-first.first) c.read.ensures c.in_ok-first.ensures.value in
    let second = read_is c.read-2.result None c.read-2.ensures c.in_err-second.ensures.value in
    let h = verdict_is pair.first.order.now pair.first.survey.now pair.second.order.now pair.second.survey.now _ _ _ first second c.from_residual-in_err-second.ensures in
    record { value = h.0; law = h.1 }

pub returns : goal.returns
returns c =
    let pair = c.args.pair in
    let first = read_is c.read.result (Some c.in_ok-first.first) c.read.ensures c.in_ok-first.ensures.value in
    let second = read_is c.read-2.result (Some c.in_ok-second.second) c.read-2.ensures c.in_ok-second.ensures.value in
    let h = verdict_is pair.first.order.now pair.first.survey.now pair.second.order.now pair.second.survey.now _ _ _ first second c.settled.ensures in
    record { value = h.0; law = h.1 }
