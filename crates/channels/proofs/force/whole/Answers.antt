-- `whole` gives the whole number that the float is: `Wholes` has the tests.
use Rattle.std.proofs.Common.{Bool, ◌&&◌, sym, ap, ◌∙◌, to_z-of_z, w64, SFits, to_z, of_z, rules}
use lib.Ieee.{Float, binary32, of_int, eq}
use Rattle.channels.proofs.Wholes.{tells_whole}
use Rattle.channels.proofs.force.whole.Goals as goal
use Rattle.channels.proofs.force.whole.Goals.{then-is_in_range, else-is_in_range}

pub returns : goal.returns
returns c =
    let x = c.args.value in
    let cut = c.saturating_f32_to_i64-cut.result in
    let v = to_z w64 (of_z w64 cut) in
    let fits : SFits w64 cut = search rules in
    c.then_some.ensures ∙ tells_whole x v c.if-is_in_range.then_some (to_z-of_z fits ∙ c.saturating_f32_to_i64-cut.ensures)
    (elim c.if-is_in_range.branch [
      | then-is_in_range w ↦
          w.then_some-is ∙ ap (λ (y : Float). eq y x) w.nearest_i64_to_f32.ensures
          ∙ sym (ap (λ (b : Bool). b && eq (of_int binary32 v) x) (sym c.is_in_range.ensures ∙ w.if-is_in_range.true))
      | else-is_in_range w ↦
          w.then_some-is ∙ w.if-is_in_range.false
          ∙ sym (ap (λ (b : Bool). b && eq (of_int binary32 v) x) (sym c.is_in_range.ensures ∙ w.if-is_in_range.false))
    ])
