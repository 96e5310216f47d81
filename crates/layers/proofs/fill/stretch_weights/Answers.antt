use Rattle.std.proofs.Common.{◌≡◌, ℕ, ◌+◌, ◌*◌, ◌^◌, ◌<◌, ◌≤◌, pos, ◌*ℤ◌, ap, mul-le-mul_left, mul-zero, arith, to_z-of_z, w64, SFits, rules}
use borrow.Author.Differences.{ints}
use mir.Val.{hbits}
use mir.Facts.{to_z_pos}
use Rattle.algebra.specs.Weights.{stretch_weight}
use Rattle.algebra.proofs.Rows.{stretch_beyond}
use Rattle.rules.proofs.Bounds.{weight_bound}
use Rattle.layers.proofs.Filling.{few_panels, filled_none, filled_all, scaled_bound, stretched_more}
use Rattle.layers.proofs.fill.stretch_weights.Goals as goal

pub loop-station-init : goal.loop-station-init
loop-station-init g c = rw mul-zero (filled_none (stretch_weight c.args.count (g.R.Rule.meaning c.args.below.now).weighting.weight))

pub overflow_mul-weights : goal.overflow_mul-weights
overflow_mul-weights g c =
    let m = g.R.Rule.meaning c.args.below.now in
    let sound = g.met.R.Rule.sound c.args.below.now in
    let few = few_panels c.args.count m.span sound.span.least c.requires.within in
    let small : c.args.count < 2 ^ hbits w64 = omega (arith, few) in
    let fits : SFits w64 c.weight.result = search rules in
    simp (to_z-of_z, to_z_pos)
    (omega (arith, ints, scaled_bound c.args.count (2 ^ 40) 1024 c.weight.result few (omega (arith, ints, c.weight.ensures, weight_bound m sound c.loop-station.station))))

-- the multiple of a station of the rule below
inside : (count station span : ℕ) → station < span + 1 → count * span ≤ 1024 → count * station ≤ 1024
inside count station span h k = let le : station ≤ span = omega arith in omega (arith, mul-le-mul_left count le)

pub loop-station-preserved : goal.loop-station-preserved
loop-station-preserved g c =
    let m = g.R.Rule.meaning c.args.below.now in
    let sound = g.met.R.Rule.sound c.args.below.now in
    let few = few_panels c.args.count m.span sound.span.least c.requires.within in
    let small : c.args.count < 2 ^ hbits w64 = omega (arith, few) in
    let fits : SFits w64 c.weight.result = search rules in
    let product : SFits w64 (pos c.args.count *ℤ c.weight.result) =
    omega (arith, ints, scaled_bound c.args.count (2 ^ 40) 1024 c.weight.result few (omega (arith, ints, c.weight.ensures, weight_bound m sound c.loop-station.station))) in
    simp (to_z-of_z, to_z_pos)
    (stretched_more c.loop-station.weights c.args.count c.loop-station.station m.weighting.weight (pos c.args.count *ℤ c.weight.result) c.requires.some
    (omega (arith, inside c.args.count c.loop-station.station m.span (omega (arith, c.span-station-end.ensures)) c.requires.within))
    (ap (λ t. pos c.args.count *ℤ t) c.weight.ensures) c.loop-station.invariant)

pub returns : goal.returns
returns g c =
    let m = g.R.Rule.meaning c.args.below.now in
    let sound = g.met.R.Rule.sound c.args.below.now in
    let all : c.loop-station.station ≡ m.span + 1 = omega (arith, c.span-station-end.ensures) in
    filled_all c.loop-station.weights (c.args.count * c.loop-station.station) (stretch_weight c.args.count m.weighting.weight)
    (λ s h. stretch_beyond c.args.count m.span m.weighting.weight c.requires.some sound.beyond s (omega (arith, h, c.requires.some, ap (λ t. c.args.count * t) all)))
    c.loop-station.invariant
