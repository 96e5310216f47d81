use Rattle.std.proofs.Common.{ap, ◌∙◌}
use Rattle.rules.specs.Rows.{built_in_ceiling}
use Rattle.rules.proofs.built_in.BuiltInRule.ceiling.Goals as goal

pub returns : goal.returns
returns c = ap (λ r. r.ceiling) c.row.ensures ∙ built_in_ceiling c.args.self.now
