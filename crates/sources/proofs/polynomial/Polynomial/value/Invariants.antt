use Rattle.sources.specs.Polynomials.{coefficient_of}
use Rattle.sources.proofs.Horner.{Going}
use Rattle.sources.proofs.polynomial.Polynomial.value.Given as goal

abbrev pub invariant-loop-coefficient : goal.invariant-loop-coefficient
invariant-loop-coefficient l =
    (goal.iterator-loop-coefficient).can_next l.coefficient-iterator
    × (goal.iterator-loop-coefficient).is_finite l.coefficient-iterator
    × Going (coefficient_of l.self) l.station l.coefficient-iterator.iter.rest.now l.value
