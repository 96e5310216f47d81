use Rattle.std.proofs.Common.{Bool, ℤ, sym, ap, ◌∙◌, subst, w64, SFits, to_z, rules}
use Rattle.std.specs.Bool.{then_some}
use Rattle.std.proofs.lemmas.Int.{to_z-of_z}
use Rattle.sources.specs.Polynomials.{coefficient_of}
use Rattle.sources.proofs.Horner.{Going, breaks_off, going_more, going_left, going_all, read_none, read_is}
use Rattle.sources.proofs.polynomial.Polynomial.value.Goals as goal

pub returns-then-has_left : goal.returns-then-has_left
returns-then-has_left c =
    let a = coefficient_of c.args.self.now in
    let s = c.args.station in
    let w = c.step-value.result in
    let x = c.in-Some.coefficient.now in
    let fits : SFits w64 w = search rules in
    let fits-x : SFits w64 x = search rules in
    let is = rw (to_z-of_z w64 x fits-x) at c.step-value.ensures in
    let leaves = ap (breaks_off s) (sym (to_z-of_z w64 w fits)) ∙ sym c.has_left.ensures ∙ c.if-has_left.true in
    sym (read_none a s (going_left a s _ c.next.new.self.iter.rest.now _ w x c.args.self.now.in_range c.loop-coefficient.invariant.2 c.in-Some.ensures.steps is leaves))

pub loop-coefficient-preserved : goal.loop-coefficient-preserved
loop-coefficient-preserved c =
    let a = coefficient_of c.args.self.now in
    let s = c.args.station in
    let w = c.step-value.result in
    let rest = c.next.new.self.iter.rest.now in
    let x = c.in-Some.coefficient.now in
    let fits : SFits w64 w = search rules in
    let fits-x : SFits w64 x = search rules in
    let is = rw (to_z-of_z w64 x fits-x) at c.step-value.ensures in
    let stays = ap (breaks_off s) (sym (to_z-of_z w64 w fits)) ∙ sym c.has_left.ensures ∙ c.if-has_left.false in
    (tt, tt, subst (λ (t : ℤ). Going a s rest t) (sym (to_z-of_z w64 w fits)) (going_more a s _ rest _ w x c.args.self.now.in_range c.loop-coefficient.invariant.2 c.in-Some.ensures.steps is stays))

pub returns : goal.returns
returns c =
    let a = coefficient_of c.args.self.now in
    let v = to_z w64 c.loop-coefficient.value-bits in
    c.then_some.ensures ∙ ap (λ (b : Bool). then_some b v) c.is_in_range.ensures
    ∙ read_is a c.args.station v c.requires (going_all a c.args.station _ v c.loop-coefficient.invariant.2 c.in-None.ensures.steps.0)
