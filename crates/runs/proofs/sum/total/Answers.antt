use Rattle.std.proofs.Common.{◌≡◌, ℕ, ◌+◌, ◌^◌, ◌<◌, ◌≤◌, false, to_z, of_z, pos, ◌+ℤ◌, ◌*ℤ◌, nat_abs, Err, Option, sym, refl, ap, ◌∙◌, arith, w64, SFits, rules}
use borrow.Author.Differences.{ints}
use mir.Val.{hbits}
use Rattle.std.proofs.lemmas.Int.{to_z-of_z, to_z_pos}
use Rattle.rules.specs.declared.fault.Origin.TheVariants.{Run}
use Rattle.algebra.specs.Sums.{sum, abs}
use Rattle.algebra.proofs.Sums.{sum_none}
use Rattle.rules.proofs.Bounds.{weight_bound}
use Rattle.runs.specs.Totals.{lacks, value_of, empty_station, given as given_or, sum_of}
use Rattle.runs.proofs.Sizes.{radius_bound}
use Rattle.sources.proofs.Searches.{first_more, first_found}
use Rattle.runs.proofs.Terms.{station_missing, sum_step, size_step, total_there}
use Rattle.runs.proofs.sum.total.Given as given
use Rattle.runs.proofs.sum.total.Goals as goal

-- the sum and the size with the station of this turn
within : (g : given.Over) (c : goal.After-abs-magnitude g) → c.loop-station.station < (g.R.Rule.meaning c.args.rule.now).weighting.stations
within g c = omega (arith, c.loop-station-test.true, c.span-station-end.ensures, (g.met.R.Rule.sound c.args.rule.now).span.stations)

weight_is : (g : given.Over) (c : goal.After-abs-magnitude g) → to_z w64 (of_z w64 c.weight-weight.result) ≡ (g.R.Rule.meaning c.args.rule.now).weighting.weight c.loop-station.station
weight_is g c =
    let weight : SFits w64 c.weight-weight.result = search rules in
    to_z-of_z w64 c.weight-weight.result weight ∙ c.weight-weight.ensures

added : (g : given.Over) (c : goal.After-abs-magnitude g) →
    (lacks ((g.R.Rule.meaning c.args.rule.now).weighting.weight c.loop-station.station) ((g.S.Source.meaning c.args.source.now).reading c.loop-station.station) ≡ false)
    × (c.loop-station.sum +ℤ c.in-Some.term ≡ sum (c.loop-station.station + 1) (λ s. (g.R.Rule.meaning c.args.rule.now).weighting.weight s *ℤ value_of ((g.S.Source.meaning c.args.source.now).reading s)))
    × (nat_abs (c.loop-station.sum +ℤ c.in-Some.term) ≤ 2 ^ 60)
added g c =
    sum_step (g.R.Rule.meaning c.args.rule.now) (g.met.R.Rule.sound c.args.rule.now) c.loop-station.station (within g c) _ (weight_is g c)
    (g.S.Source.meaning c.args.source.now) (g.met.S.Source.sound c.args.source.now)
    c.loop-station.sum c.in-Some.term c.reading.result (sym c.loop-station.sum-is ∙ c.loop-station.invariant.1) c.reading.ensures c.in-Some.ensures

sized : (g : given.Over) (c : goal.After-abs-magnitude g) →
    (c.loop-station.size +ℤ c.abs-magnitude.result ≡ sum (c.loop-station.station + 1) (λ s. abs ((g.R.Rule.meaning c.args.rule.now).weighting.weight s)))
    × (nat_abs (c.loop-station.size +ℤ c.abs-magnitude.result) ≤ 2 ^ 40)
sized g c =
    size_step (g.R.Rule.meaning c.args.rule.now) (g.met.R.Rule.sound c.args.rule.now) c.loop-station.station (within g c) _ (weight_is g c)
    c.loop-station.size c.abs-magnitude.result (sym c.loop-station.size-is ∙ c.loop-station.invariant.2) c.abs-magnitude.ensures.value

pub loop-station-init : goal.loop-station-init
loop-station-init g c = (refl, sym (sum_none _), sym (sum_none _))

pub term-requires-clause-weight : goal.term-requires-clause-weight
term-requires-clause-weight g c =
    let fits : SFits w64 c.weight-weight.result = search rules in
    simp to_z-of_z (omega (arith, ap nat_abs c.weight-weight.ensures, weight_bound (g.R.Rule.meaning c.args.rule.now) (g.met.R.Rule.sound c.args.rule.now) c.loop-station.station))

pub returns-in_default : goal.returns-in_default
returns-in_default g c =
    let m = g.R.Rule.meaning c.args.rule.now in
    let r = g.S.Source.meaning c.args.source.now in
    let n = c.loop-station.station in
    let fits : SFits w64 c.weight-weight.result = search rules in
    let missing = station_missing m.weighting.weight r.reading n _ c.reading.result
    (to_z-of_z w64 c.weight-weight.result fits ∙ c.weight-weight.ensures) c.reading.ensures c.in_default.ensures in
    let found = first_found (λ s. lacks (m.weighting.weight s) (r.reading s)) n m.weighting.stations c.loop-station.invariant.0 missing
    (omega (arith, c.loop-station-test.true, c.span-station-end.ensures, (g.met.R.Rule.sound c.args.rule.now).span.stations)) in
    ap Err c.fault.ensures ∙ sym (ap (λ (o : Option ℕ). given_or (empty_station Run o) (sum_of m.weighting r)) found)

pub overflow_add-sum : goal.overflow_add-sum
overflow_add-sum g c =
    let fits : SFits w64 c.in-Some.term = search rules in
    simp (to_z-of_z, c.loop-station.sum-is) (omega (arith, ints, (added g c).2))

pub abs-magnitude-requires : goal.abs-magnitude-requires
abs-magnitude-requires g c =
    let fits : SFits w64 c.weight-weight.result = search rules in
    let small = weight_bound (g.R.Rule.meaning c.args.rule.now) (g.met.R.Rule.sound c.args.rule.now) c.loop-station.station in
    simp to_z-of_z (omega (arith, ints, ap nat_abs c.weight-weight.ensures, small))

pub overflow_add-size : goal.overflow_add-size
overflow_add-size g c =
    let fits : SFits w64 c.abs-magnitude.result = search rules in
    simp (to_z-of_z, c.loop-station.size-is) (omega (arith, ints, (sized g c).1))

pub loop-station-preserved : goal.loop-station-preserved
loop-station-preserved g c =
    let m = g.R.Rule.meaning c.args.rule.now in
    let r = g.S.Source.meaning c.args.source.now in
    let a : SFits w64 c.in-Some.term = search rules in
    let b : SFits w64 c.abs-magnitude.result = search rules in
    let e : SFits w64 (c.loop-station.sum +ℤ c.in-Some.term) = omega (arith, ints, (added g c).2) in
    let f : SFits w64 (c.loop-station.size +ℤ c.abs-magnitude.result) = omega (arith, ints, (sized g c).1) in (
      first_more (λ s. lacks (m.weighting.weight s) (r.reading s)) c.loop-station.station c.loop-station.invariant.0 (added g c).0,
      simp (to_z-of_z, c.loop-station.sum-is) (added g c).1,
      simp (to_z-of_z, c.loop-station.size-is) (sized g c).0,
    )

-- the sums are those of all stations, and the radius fits
all : (g : given.Over) (c : goal.After-tolerance g) → c.loop-station.station ≡ (g.R.Rule.meaning c.args.rule.now).weighting.stations
all g c = omega (arith, c.loop-station-test.false, c.span-station-end.ensures, (g.met.R.Rule.sound c.args.rule.now).span.stations)

half : (g : given.Over) (c : goal.After-tolerance g) → c.tolerance.result < 2 ^ hbits w64
half g c = omega (arith, c.tolerance.ensures, (g.met.S.Source.sound c.args.source.now).tolerance)

radius_fits : (g : given.Over) (c : goal.After-tolerance g) → SFits w64 (pos c.tolerance.result *ℤ c.loop-station.size)
radius_fits g c =
    let small = radius_bound (g.R.Rule.meaning c.args.rule.now) (g.S.Source.meaning c.args.source.now) (g.met.R.Rule.sound c.args.rule.now) (g.met.S.Source.sound c.args.source.now)
    c.loop-station.station c.tolerance.result c.loop-station.size (omega (arith, all g c)) c.tolerance.ensures (sym c.loop-station.size-is ∙ c.loop-station.invariant.2) in
    omega (arith, ints, small)

pub overflow_mul-result : goal.overflow_mul-result
overflow_mul-result g c =
    let below = half g c in
    simp (to_z_pos, c.loop-station.size-is) (radius_fits g c)

pub returns : goal.returns
returns g c =
    let below = half g c in
    let fits = radius_fits g c in
    simp (to_z-of_z, to_z_pos, c.loop-station.sum-is, c.loop-station.size-is)
    (total_there (g.R.Rule.meaning c.args.rule.now) (g.S.Source.meaning c.args.source.now) c.loop-station.station c.loop-station.sum c.loop-station.size c.denominator.result c.tolerance.result
    (all g c) c.loop-station.invariant.0 (sym c.loop-station.sum-is ∙ c.loop-station.invariant.1) (sym c.loop-station.size-is ∙ c.loop-station.invariant.2) c.denominator.ensures c.tolerance.ensures)
