use Rattle.std.proofs.Common.{rules}
use Rattle.layers.specs.Layers.{factor}
use Rattle.layers.proofs.make.factor.Goals as goal

pub returns-clause-value : goal.returns-clause-value
unfolding factor
returns-clause-value c = let h = c.get.ensures.lookup in search rules
