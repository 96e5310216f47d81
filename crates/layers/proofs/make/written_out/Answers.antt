use Rattle.layers.proofs.Making.{tells_sound}
use Rattle.layers.proofs.make.written_out.Goals as goal

pub table-requires : goal.table-requires
table-requires g c =
    tells_sound (g.R.Rule.meaning c.args.rule.now) c.of.result c.same_weights.result c.is_symmetric.result
    (g.met.R.Rule.sound c.args.rule.now) c.of.ensures c.is_symmetric.ensures c.same_weights.ensures
