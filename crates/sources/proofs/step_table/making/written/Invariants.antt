use Rattle.std.proofs.Common.{◌≡◌, ℕ, cond, ltb, drop}
use Rattle.sources.specs.Rows.{told}
use Rattle.sources.specs.StepTables.{step_at}
use Rattle.sources.proofs.Steps.{bound, flat}
use Rattle.sources.proofs.step_table.making.written.Given as goal

abbrev pub invariant-loop-index : goal.invariant-loop-index
invariant-loop-index l = (l.index-iterator.iter.a.rest.now ≡ drop l.index-iterator.count l.starts)
    × (l.index-iterator.iter.b.rest.now ≡ drop l.index-iterator.count l.values)
    × ((s : ℕ) → told l.row s ≡ cond (ltb s (bound l.starts l.index-iterator.count)) (step_at l.starts l.values s) (flat l.starts s))
