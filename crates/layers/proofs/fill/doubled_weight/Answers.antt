use Rattle.std.proofs.Common.{◌≡◌, ℕ, ◌^◌, ◌≤◌, ℤ, pos, ◌*ℤ◌, nat_abs, sym, subst, ap, ◌∙◌, arith, to_z-of_z, w64, SFits}
use borrow.Author.Differences.{ints}
use Rattle.std.proofs.lemmas.Bool.{cond-true, eq-eqb}
use Rattle.rules.specs.Meaning.{Meaning, Sound}
use Rattle.rules.proofs.Bounds.{weight_bound}
use Rattle.layers.proofs.fill.doubled_weight.Goals as goal

-- the weight at whatever station was asked for is small
small : (m : Meaning) → Sound m → (s : ℕ) (w : ℤ) → w ≡ m.weighting.weight s → nat_abs w ≤ 2 ^ 40
small m sound s w is = subst (λ x. nat_abs x ≤ 2 ^ 40) (sym is) (weight_bound m sound s)

pub overflow_mul-result : goal.overflow_mul-result
overflow_mul-result g c =
    omega (arith, ints, small (g.R.Rule.meaning c.args.below.now) (g.met.R.Rule.sound c.args.below.now) _ _ c.weight.ensures)

pub returns-then-station-eq0 : goal.returns-then-station-eq0
returns-then-station-eq0 g c =
    let b = small (g.R.Rule.meaning c.args.below.now) (g.met.R.Rule.sound c.args.below.now) _ _ c.weight.ensures in
    let f : SFits w64 c.weight.result = omega (arith, ints, b) in
    let p : SFits w64 (pos 2 *ℤ c.weight.result) = omega (arith, ints, b) in
    simp to_z-of_z (ap (λ t. pos 2 *ℤ t) c.weight.ensures ∙ sym (cond-true _ _ _ (eq-eqb _ _ c.if-station-eq0.true)))
