use Rattle.std.proofs.Common.{◌≡◌, map, drop}
use Rattle.rules.specs.Tables.{told}
use Rattle.runs.specs.Recorded.{ledger_of}
use Rattle.claims.proofs.Replaying.{Underway}
use Rattle.battenlime.specs.Replays.{entry_meant, reply_shown}
use Rattle.battenlime.proofs.replays.performing.perform_all.Given as goal

abbrev pub invariant-loop-index : goal.invariant-loop-index
invariant-loop-index l =
    Underway reply_shown (told l.initial.run.rule) (ledger_of l.initial.run) (map entry_meant (drop l.index l.calls)) (map entry_meant l.calls) l.initial.replies l.replies l.index (ledger_of l.run)
    × (l.run.rule ≡ l.initial.run.rule)
