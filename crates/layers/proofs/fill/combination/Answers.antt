use Rattle.std.proofs.Common.{◌^◌, ◌<◌, ◌≤◌, pos, ◌+ℤ◌, ◌-ℤ◌, ◌*ℤ◌, nat_abs, arith, to_z-of_z, w64, SFits}
use borrow.Author.Differences.{ints}
use mir.Val.{hbits}
use mir.Facts.{to_z_pos}
use Rattle.layers.proofs.Filling.{scaled_bound}
use Rattle.layers.proofs.fill.combination.Goals as goal

pub overflow_sub-result : goal.overflow_sub-result
overflow_sub-result c =
    let l : SFits w64 c.args.left = c.ranges.left in
    let r : SFits w64 c.args.right = c.ranges.right in
    let s : SFits w64 c.args.coarse = c.ranges.coarse in
    let a : SFits w64 (c.args.left +ℤ c.args.right) = omega (arith, ints, c.requires) in
    let k : c.args.factor < 2 ^ hbits w64 = omega (arith, c.requires) in
    let b : nat_abs (pos c.args.factor *ℤ (c.args.left +ℤ c.args.right)) ≤ 2 ^ 52 =
    scaled_bound c.args.factor (2 ^ 41) 2048 (c.args.left +ℤ c.args.right) c.requires.factor (omega (arith, ints, c.requires)) in
    let p : SFits w64 (pos c.args.factor *ℤ (c.args.left +ℤ c.args.right)) = omega (arith, ints) in
    simp (to_z-of_z, to_z_pos) (omega (arith, ints, c.requires))

pub returns : goal.returns
returns c =
    let l : SFits w64 c.args.left = c.ranges.left in
    let r : SFits w64 c.args.right = c.ranges.right in
    let s : SFits w64 c.args.coarse = c.ranges.coarse in
    let a : SFits w64 (c.args.left +ℤ c.args.right) = omega (arith, ints, c.requires) in
    let k : c.args.factor < 2 ^ hbits w64 = omega (arith, c.requires) in
    let b : nat_abs (pos c.args.factor *ℤ (c.args.left +ℤ c.args.right)) ≤ 2 ^ 52 =
    scaled_bound c.args.factor (2 ^ 41) 2048 (c.args.left +ℤ c.args.right) c.requires.factor (omega (arith, ints, c.requires)) in
    let p : SFits w64 (pos c.args.factor *ℤ (c.args.left +ℤ c.args.right)) = omega (arith, ints) in
    let q : SFits w64 ((pos c.args.factor *ℤ (c.args.left +ℤ c.args.right)) -ℤ c.args.coarse) = omega (arith, ints, c.requires) in
    simp (to_z-of_z, to_z_pos)
