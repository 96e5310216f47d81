use Rattle.session.proofs.Sessions.{all_accepted}
use Rattle.session.proofs.session.estimate.Goals as goal

pub returns : goal.returns
returns c =
    all_accepted c.args.input.order.now c.args.input.survey.now _ _ _ _ _ _ _ _ c.in_ok-read.ensures c.in_ok-pile.ensures c.in_ok-readings.ensures c.new-run.ensures.rule c.new-run.ensures.ledger
    c.load.ensures.rule c.load.ensures.ledger c.result.ensures
