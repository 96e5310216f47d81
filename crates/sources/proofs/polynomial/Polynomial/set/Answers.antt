use Rattle.std.proofs.Common.{sym, subst}
use Rattle.sources.specs.Readings.{InRange}
use Rattle.sources.proofs.Writing.{list_in_range}
use Rattle.sources.proofs.polynomial.Polynomial.set.Goals as goal

pub invariant_of-self : goal.invariant_of-self
invariant_of-self c =
    record { in_range = λ i. subst InRange (sym (c.padded-self.ensures i)) (list_in_range c.args.coefficients.now (sym c.in_default.ensures) i) }
