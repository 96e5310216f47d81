use Rattle.std.proofs.Common.{sym, ap, ◌∙◌, arith}
use Rattle.algebra.specs.Divisors.{gcd}
use Rattle.algebra.proofs.Divisors.{gcd_zero, gcd_step}
use Rattle.layers.proofs.divisor.greatest_common.Goals as goal

pub loop-smaller-preserved : goal.loop-smaller-preserved
loop-smaller-preserved c = sym (gcd_step c.loop-smaller.larger c.loop-smaller.smaller (omega arith)) ∙ c.loop-smaller.invariant

pub returns : goal.returns
returns c = sym (gcd_zero c.loop-smaller.larger) ∙ ap (gcd c.loop-smaller.larger) (omega arith) ∙ c.loop-smaller.invariant
