use Rattle.std.proofs.Common.{◌≡◌}
use Rattle.algebra.specs.Divisors.{gcd}
use Rattle.layers.proofs.divisor.greatest_common.Given as goal

abbrev pub invariant-loop-smaller : goal.invariant-loop-smaller
invariant-loop-smaller l = gcd l.larger l.smaller ≡ gcd l.a l.b

abbrev pub decreases-loop-smaller : goal.decreases-loop-smaller
decreases-loop-smaller l = l.smaller
