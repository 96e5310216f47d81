use Rattle.std.proofs.Common.{refl}
use Rattle.algebra.specs.Sums.{sum, ◌^ℤ◌}
use Rattle.rules.proofs.written.Written.new.Goals as goal

pub table-requires : goal.table-requires
unfolding sum ◌^ℤ◌
table-requires c = refl
