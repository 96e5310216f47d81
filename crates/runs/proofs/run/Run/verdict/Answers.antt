use Rattle.std.proofs.Common.{sym, subst, arith}
use Rattle.std.proofs.lemmas.Grind.{common_steps}
use Rattle.runs.specs.Ledger.{estimate_of}
use Rattle.runs.specs.Recorded.{ledger_of}
use Rattle.runs.specs.Holding.{readings_held}
use Rattle.runs.specs.Verdicts.{Bounded}
use Rattle.runs.proofs.Judging.{held_sound, estimate_bounded, given_ok, separates}
use Rattle.runs.proofs.run.Run.verdict.Goals as goal

pub is_apart_from-requires-clause-first : goal.is_apart_from-requires-clause-first
is_apart_from-requires-clause-first g c =
    let m = g.R.Rule.meaning c.args.self.now.rule in
    subst Bounded (sym (given_ok _ c.in_ok-first.first (estimate_of m (readings_held c.args.self.now.held)) c.in_ok-first.ensures).0)
    (estimate_bounded m (readings_held c.args.self.now.held) (g.met.R.Rule.sound c.args.self.now.rule) (held_sound c.args.self.now.held))

pub is_apart_from-requires-clause-second : goal.is_apart_from-requires-clause-second
is_apart_from-requires-clause-second g c =
    let n = g.Q.Rule.meaning c.args.other.now.rule in
    subst Bounded (sym (given_ok _ c.in_ok-second.second (estimate_of n (readings_held c.args.other.now.held)) c.in_ok-second.ensures).0)
    (estimate_bounded n (readings_held c.args.other.now.held) (g.met.Q.Rule.sound c.args.other.now.rule) (held_sound c.args.other.now.held))

-- what the verdict says of the bands follows from its value
pub returns-then-is_apart_from-clause-value : goal.returns-then-is_apart_from-clause-value
returns-then-is_apart_from-clause-value g c = grind (arith, common_steps)

pub returns-then-is_apart_from-clause-bands : goal.returns-then-is_apart_from-clause-bands
returns-then-is_apart_from-clause-bands g c =
    separates (g.R.Rule.meaning c.args.self.now.rule) (ledger_of c.args.self.now) (g.Q.Rule.meaning c.args.other.now.rule) (ledger_of c.args.other.now)
    (g.met.R.Rule.sound c.args.self.now.rule) (g.met.Q.Rule.sound c.args.other.now.rule) _ (returns-then-is_apart_from-clause-value g c)

pub returns-else-is_apart_from-clause-value : goal.returns-else-is_apart_from-clause-value
returns-else-is_apart_from-clause-value g c = grind (arith, common_steps)

pub returns-else-is_apart_from-clause-bands : goal.returns-else-is_apart_from-clause-bands
returns-else-is_apart_from-clause-bands g c =
    separates (g.R.Rule.meaning c.args.self.now.rule) (ledger_of c.args.self.now) (g.Q.Rule.meaning c.args.other.now.rule) (ledger_of c.args.other.now)
    (g.met.R.Rule.sound c.args.self.now.rule) (g.met.Q.Rule.sound c.args.other.now.rule) _ (returns-else-is_apart_from-clause-value g c)
