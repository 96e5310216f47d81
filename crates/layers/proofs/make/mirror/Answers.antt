use Rattle.layers.specs.Layers.{mirrored}
use Rattle.layers.specs.declared.layer.Layer.TheVariants.{Mirror}
use Rattle.layers.proofs.Keeps.{made_sound, mirror_accepted}
use Rattle.layers.proofs.Making.{tells_sound}
use Rattle.layers.proofs.make.mirror.Goals as goal

pub table-requires : goal.table-requires
table-requires g c =
    let m = g.R.Rule.meaning c.args.below in
    let sound = g.met.R.Rule.sound c.args.below in
    tells_sound (mirrored m) c.of.result c.mirror_weights.result c.is_symmetric.result (made_sound Mirror m sound (mirror_accepted m sound))
    c.of.ensures c.is_symmetric.ensures c.mirror_weights.ensures
