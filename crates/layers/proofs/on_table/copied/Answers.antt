use Rattle.std.proofs.Common.{refl}
use Rattle.rules.specs.Tables.{told}
use Rattle.layers.proofs.Making.{tells_sound}
use Rattle.layers.proofs.on_table.copied.Goals as goal

pub table-requires : goal.table-requires
table-requires c =
    tells_sound (told c.args.table.now) c.of.result c.args.table.now.weights c.args.table.now.symmetric
    c.args.table.now.sound c.of.ensures refl (λ s. refl)
