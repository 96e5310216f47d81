use Rattle.std.proofs.Common.{map, sym, subst}
use Rattle.std.specs.Result.{result_map_both}
use Rattle.runs.specs.Recorded.{entry_of}
use Rattle.claims.specs.Laws.{VerdictLaw}
use Rattle.claims.specs.Replays.{account_of}
use Rattle.claims.proofs.Cases.{case_law_of}
use Rattle.claims.proofs.Settling.{verdict_law_lem}
use Rattle.claims.proofs.two_cases.settle.Goals as goal

pub returns-clause-first_law : goal.returns-clause-first_law
returns-clause-first_law g c =
    case_law_of (g.A.Rule.meaning c.args.first.bottom) c.args.first.layers.now (map (entry_of g.S.Source.meaning) c.args.first.calls.now) c.args.first_replies.now
    (result_map_both account_of (λ e. e) c.replay-first.result) c.replay-first.new.replies
    (g.met.A.Rule.sound c.args.first.bottom) c.replay-first.ensures.account c.replay-first.ensures.replies

pub returns-clause-second_law : goal.returns-clause-second_law
returns-clause-second_law g c =
    case_law_of (g.B.Rule.meaning c.args.second.bottom) c.args.second.layers.now (map (entry_of g.T.Source.meaning) c.args.second.calls.now) c.args.second_replies.now
    (result_map_both account_of (λ e. e) c.replay-second.result) c.replay-second.new.replies
    (g.met.B.Rule.sound c.args.second.bottom) c.replay-second.ensures.account c.replay-second.ensures.replies

pub returns-clause-verdict_law : goal.returns-clause-verdict_law
returns-clause-verdict_law g c =
    let one = result_map_both account_of (λ e. e) c.replay-first.result in
    let other = result_map_both account_of (λ e. e) c.replay-second.result in
    subst (VerdictLaw one other) (sym c.judged-verdict.ensures)
    (verdict_law_lem one other (returns-clause-first_law g c).pile.promises (returns-clause-second_law g c).pile.promises)
