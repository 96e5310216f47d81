use Rattle.std.proofs.Common.{sym}
use Rattle.layers.specs.declared.layer.Layer.TheVariants.{Panels}
use Rattle.layers.proofs.Making.{table_made, table_sound}
use Rattle.layers.proofs.make.lay_panels.Goals as goal

pub table-requires : goal.table-requires
table-requires g c =
    table_sound (Panels c.args.count) c.args.place (g.R.Rule.meaning c.args.below) c.in_ok-sizes.sizes c.panel_weights.result c.is_symmetric.result
    (sym c.in_ok-sizes.ensures) c.is_symmetric.ensures c.panel_weights.ensures (g.met.R.Rule.sound c.args.below)

pub returns : goal.returns
returns g c =
    table_made (Panels c.args.count) c.args.place (g.R.Rule.meaning c.args.below) c.in_ok-sizes.sizes c.panel_weights.result c.is_symmetric.result
    (sym c.in_ok-sizes.ensures) c.is_symmetric.ensures c.panel_weights.ensures _ c.table.ensures
