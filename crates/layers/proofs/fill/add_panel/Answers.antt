use Rattle.std.proofs.Common.{◌≡◌, ℕ, ◌+◌, ◌-◌, ◌^◌, ◌<◌, ◌≤◌, List, length, get_or, ℤ, pos, ◌+ℤ◌, nat_abs, ap, arith, to_z-of_z, w64, SFits, rules}
use borrow.Author.Differences.{ints}
use borrow.Rule.Slice.PartMut.{mid_of}
use Rattle.rules.proofs.Bounds.{weight_bound}
use Rattle.layers.proofs.Filling.{Added, added_here, added_more, panel_added, was_there}
use Rattle.layers.proofs.fill.add_panel.Goals as goal

-- a weight added to an entry that is still as it was
sum_fits : (old part : List ℤ) (first k : ℕ) (W : ℕ → ℤ) (u : ℕ) (w : ℤ) → first + k ≤ length old → length part ≡ k → u < k → Added part (λ s. get_or (mid_of first k old) s (pos 0)) W u → ((s : ℕ) → nat_abs (get_or old s (pos 0)) ≤ 2 ^ 60) → w ≡ W u → nat_abs (W u) ≤ 2 ^ 40 → SFits w64 (get_or part u (pos 0) +ℤ w)
sum_fits old part first k W u w within long lt added small is bound =
    omega (arith, ints, added_here part (λ s. get_or (mid_of first k old) s (pos 0)) W u added, was_there old part first k within long u lt, small (first + u))

pub overflow_add-weight : goal.overflow_add-weight
overflow_add-weight g c =
    let m = g.R.Rule.meaning c.args.below.now in
    let k = c.args.first + c.span.result + 1 - c.args.first in
    let u = c.loop-station.station in
    let long : length c.loop-station.weight-items ≡ k = search rules in
    let both = sum_fits c.args.weights.now c.loop-station.weight-items c.args.first k m.weighting.weight u c.weight.result
    (omega (arith, c.told-weights, c.requires.within, c.span.ensures)) long (omega (arith, long)) c.loop-station.invariant c.requires.small c.weight.ensures
    (weight_bound m (g.met.R.Rule.sound c.args.below.now) u) in
    omega (arith, ints)

pub loop-station-preserved : goal.loop-station-preserved
loop-station-preserved g c =
    let m = g.R.Rule.meaning c.args.below.now in
    let k = c.args.first + c.span.result + 1 - c.args.first in
    let u = c.loop-station.station in
    let long : length c.loop-station.weight-items ≡ k = search rules in
    let old : SFits w64 (get_or c.loop-station.weight-items u (pos 0)) = search rules in
    let more : SFits w64 c.weight.result = search rules in
    let both = sum_fits c.args.weights.now c.loop-station.weight-items c.args.first k m.weighting.weight u c.weight.result
    (omega (arith, c.told-weights, c.requires.within, c.span.ensures)) long (omega (arith, long)) c.loop-station.invariant c.requires.small c.weight.ensures
    (weight_bound m (g.met.R.Rule.sound c.args.below.now) u) in
    simp to_z-of_z
    (added_more c.loop-station.weight-items (λ s. get_or (mid_of c.args.first k c.args.weights.now) s (pos 0)) m.weighting.weight u
    (get_or c.loop-station.weight-items u (pos 0) +ℤ c.weight.result) (omega (arith, long)) (ap (λ t. get_or c.loop-station.weight-items u (pos 0) +ℤ t) c.weight.ensures)
    c.loop-station.invariant)

pub returns : goal.returns
returns g c =
    let sound = g.met.R.Rule.sound c.args.below.now in
    let k = c.args.first + c.span.result + 1 - c.args.first in
    let long : length c.loop-station.weight-items ≡ k = search rules in
    panel_added c.args.weights.now c.loop-station.weight-items c.args.first k (omega (arith, c.told-weights, c.requires.within, c.span.ensures)) long
    (g.R.Rule.meaning c.args.below.now).weighting.weight c.loop-station.station (omega (arith, long, c.loop-station-test.false))
    (λ s h. sound.beyond s (omega (arith, c.span.ensures))) c.loop-station.invariant
