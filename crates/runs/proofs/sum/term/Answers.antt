use Rattle.std.proofs.Common.{ℤ, ◌^◌, ◌≤◌, ◌*ℤ◌, nat_abs, arith, to_z-of_z, w64, SFits, rules}
use borrow.Author.Differences.{ints}
use Rattle.runs.proofs.Sizes.{product_bound}
use Rattle.runs.proofs.sum.term.Goals as goal

-- the product keeps within 60 bits
product_fits : (w v : ℤ) → nat_abs w ≤ 2 ^ 40 → nat_abs v ≤ 2 ^ 20 → SFits w64 (w *ℤ v)
product_fits w v h k = omega (arith, ints, product_bound (2 ^ 40) (2 ^ 20) w v h k)

pub overflow_mul-result : goal.overflow_mul-result
overflow_mul-result c =
    let v = c.in_ok-reading.field-0 in
    let w : SFits w64 c.args.weight = c.ranges.weight in
    let f : SFits w64 v = search rules in
    simp to_z-of_z (product_fits c.args.weight v c.requires.weight (c.requires.reading v c.in_ok-reading.was))

pub returns : goal.returns
returns c =
    let v = c.in_ok-reading.field-0 in
    let w : SFits w64 c.args.weight = c.ranges.weight in
    let f : SFits w64 v = search rules in
    let p = product_fits c.args.weight v c.requires.weight (c.requires.reading v c.in_ok-reading.was) in
    simp (to_z-of_z, c.in_ok-reading.was)
