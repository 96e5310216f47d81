use Rattle.std.proofs.Common.{◌≡◌, ℕ, suc, ◌+◌, ◌≤◌, List, length, ℤ, pos, ◌*ℤ◌, sym, ap, ◌∙◌, subst, ap₂, int_eq, arith, w64, SFits, to_z, of_z, rules}
use Rattle.std.proofs.lemmas.Int.{to_z-of_z, to_z_pos}
use Rattle.algebra.specs.Sums.{◌^ℤ◌}
use Rattle.rules.specs.Written.{absolute_sum, moment_of, last_station}
use Rattle.rules.proofs.Loading.{small_fits, left_small, right_small, equal_bits}
use Rattle.rules.proofs.written.checks.Listed.is_exact.Goals as goal

left_is : (ws : List ℤ) (k : ℕ) (m : ℤ) → k ≤ 9 → SFits w64 m → m ≡ moment_of ws k → to_z w64 (k + 1) *ℤ to_z w64 (of_z w64 m) ≡ pos (suc k) *ℤ moment_of ws k
left_is ws k m h fits e =
    let next : k + 1 ≡ suc k = omega arith in
    ap₂ ◌*ℤ◌ (to_z_pos w64 (k + 1) (omega arith) ∙ ap pos next) (to_z-of_z w64 m fits ∙ e)

left_fits : (ws : List ℤ) (k : ℕ) (m : ℤ) → length ws ≤ 17 → k ≤ 9 → absolute_sum ws ≤ 1048576 → SFits w64 m → m ≡ moment_of ws k → SFits w64 (to_z w64 (k + 1) *ℤ to_z w64 (of_z w64 m))
left_fits ws k m n h b fits e = subst (SFits w64) (sym (left_is ws k m h fits e)) (small_fits _ (left_small ws k n h b))

pub overflow_mul-weighted : goal.overflow_mul-weighted
overflow_mul-weighted c =
    let fits : SFits w64 c.moment.result = search rules in
    left_fits c.args.self.now.weights.now c.args.power c.moment.result c.args.self.now.few c.requires (omega arith) fits c.moment.ensures

right_is : (c : goal.After-station_power) → to_z w64 c.args.self.now.denominator *ℤ to_z w64 (of_z w64 c.station_power.result) ≡ pos c.args.self.now.denominator *ℤ (pos (last_station c.args.self.now.weights.now) ^ℤ suc c.args.power)
right_is c =
    let fits : SFits w64 c.station_power.result = search rules in
    let next : c.args.power + 1 ≡ suc c.args.power = omega arith in
    ap₂ ◌*ℤ◌ (to_z_pos w64 c.args.self.now.denominator (omega arith))
    (to_z-of_z w64 _ fits ∙ c.station_power.ensures ∙ ap (λ k. pos (last_station c.args.self.now.weights.now) ^ℤ k) next)

pub overflow_mul-result : goal.overflow_mul-result
overflow_mul-result c =
    subst (SFits w64) (sym (right_is c)) (small_fits _ (right_small c.args.self.now.denominator (last_station c.args.self.now.weights.now) c.args.power c.args.self.now.limit (omega arith) c.requires))

pub returns : goal.returns
returns c =
    let fits : SFits w64 c.moment.result = search rules in
    equal_bits _ _
    (left_fits c.args.self.now.weights.now c.args.power c.moment.result c.args.self.now.few c.requires (omega arith) fits c.moment.ensures)
    (overflow_mul-result c)
    ∙ ap₂ int_eq (left_is c.args.self.now.weights.now c.args.power c.moment.result c.requires fits c.moment.ensures) (right_is c)
