use Rattle.std.proofs.Common.{◌≤◌, [], ◌∷◌, arith}
use Rattle.std.proofs.lemmas.List.{append_assoc, take-replicate}
use Rattle.layers.specs.declared.layer.Layer.TheVariants.{Panels, Refinement, Stretch}
use Rattle.session.proofs.order.Order.layers.Goals as goal

pub returns : goal.returns
returns c =
    let o = c.args.self in
    let few : o.refinements ≤ 7 = omega (arith, o.few) in
    let front = take-replicate o.refinements 7 Refinement few in
    cc (append_assoc c.truncate.new.self.items (Stretch o.stretch ∷ []) (Panels o.panels ∷ []))
