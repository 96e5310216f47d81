use Rattle.std.proofs.Common.{◌≡◌, map, drop}
use Rattle.runs.specs.Recorded.{entry_of, ledger_of}
use Rattle.rules.specs.Tables.{told}
use Rattle.claims.proofs.Replaying.{Underway}
use Rattle.claims.proofs.one_case.perform_all.Given as goal

abbrev pub invariant-loop-index : goal.invariant-loop-index
invariant-loop-index g l =
    Underway (λ r. r) (told l.initial.run.rule) (ledger_of l.initial.run) (map (entry_of g.S.Source.meaning) (drop l.index l.calls)) (map (entry_of g.S.Source.meaning) l.calls) l.initial.replies l.replies l.index (ledger_of l.run)
    × (l.run.rule ≡ l.initial.run.rule)
