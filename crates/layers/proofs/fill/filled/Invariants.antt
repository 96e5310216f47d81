use Rattle.std.proofs.Common.{ℕ, ◌<◌, pos, slice_index_or}
use Rattle.layers.proofs.fill.filled.Given as goal

-- the stations before this one are done
abbrev pub invariant-loop-station : goal.invariant-loop-station
invariant-loop-station g l = (s : ℕ) → s < l.station → goal.F-post g l.weight_at s (slice_index_or l.weight-items s (pos 0))
