use Rattle.std.proofs.Common.{rules, ◌+◌, ◌++◌, drop, ap, ◌∙◌, arith}
use Rattle.std.proofs.lemmas.List.{length-take}
use Rattle.battenlime.proofs.Listing.{front_listed}
use Rattle.battenlime.proofs.weights.fill.Goals as goal

pub returns-clause-weights : goal.returns-clause-weights
returns-clause-weights c =
    let pile = c.lay_on.new.table in
    let stations = pile.span + 1 in
    let front = c.copy_from_slice.ensures.after ∙ front_listed pile.weights stations (omega (arith, length-take stations pile.weights)) in
    ap (λ s. s ++ drop stations c.args.weights.now) front ∙ search rules
