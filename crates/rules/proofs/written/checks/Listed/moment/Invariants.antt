use Rattle.std.proofs.Common.{◌≡◌, pos, ◌*ℤ◌}
use Rattle.algebra.specs.Sums.{sum, ◌^ℤ◌}
use Rattle.rules.specs.Written.{weight_in}
use Rattle.rules.proofs.written.checks.Listed.moment.Given as goal

abbrev pub invariant-loop-station : goal.invariant-loop-station
invariant-loop-station l = l.total ≡ sum l.station (λ s. weight_in l.self.weights.now s *ℤ (pos s ^ℤ l.power))
