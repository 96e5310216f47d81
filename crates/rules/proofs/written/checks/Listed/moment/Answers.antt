use Rattle.std.proofs.Common.{◌≡◌, ◌^◌, ◌≤◌, ℤ, pos, ◌+ℤ◌, ◌*ℤ◌, nat_abs, sym, ◌∙◌, subst, ap₂, add-one, arith, w64, SFits, to_z, of_z, rules}
use Rattle.std.proofs.lemmas.Int.{to_z-of_z}
use Rattle.algebra.specs.Sums.{sum, ◌^ℤ◌}
use Rattle.algebra.proofs.Sums.{sum_none, sum_more}
use Rattle.rules.specs.Written.{weight_in}
use Rattle.rules.proofs.Loading.{small_fits, next_small}
use Rattle.rules.proofs.written.checks.Listed.moment.Goals as goal

-- the term of the turn, by its station
abbrev term : goal.After-station_power → ℤ
term c = weight_in c.args.self.now.weights.now c.loop-station.station *ℤ (pos c.loop-station.station ^ℤ c.args.power)

abbrev so_far : goal.After-station_power → ℤ
so_far c = sum c.loop-station.station (λ s. weight_in c.args.self.now.weights.now s *ℤ (pos s ^ℤ c.args.power))

small : (c : goal.After-station_power) → (nat_abs (term c) ≤ 2 ^ 62) × (nat_abs (so_far c +ℤ term c) ≤ 2 ^ 62)
small c =
    next_small c.args.self.now.weights.now c.loop-station.station c.args.power c.loop-station-test.true c.args.self.now.few c.requires (omega arith)

term_is : (c : goal.After-station_power) → to_z w64 (of_z w64 (weight_in c.args.self.now.weights.now c.loop-station.station)) *ℤ to_z w64 (of_z w64 c.station_power.result) ≡ term c
term_is c =
    let fits : SFits w64 (weight_in c.args.self.now.weights.now c.loop-station.station) = search rules in
    let power-fits : SFits w64 c.station_power.result = search rules in
    ap₂ ◌*ℤ◌ (to_z-of_z w64 _ fits) (to_z-of_z w64 _ power-fits ∙ c.station_power.ensures)

pub loop-station-init : goal.loop-station-init
loop-station-init c = sym (sum_none (λ s. weight_in c.args.self.now.weights.now s *ℤ (pos s ^ℤ c.args.power)))

pub overflow_mul-total : goal.overflow_mul-total
overflow_mul-total c = subst (SFits w64) (sym (term_is c)) (small_fits (term c) (small c).0)

pub overflow_add-total : goal.overflow_add-total
overflow_add-total c =
    subst (SFits w64) (sym (ap₂ ◌+ℤ◌ c.loop-station.invariant (to_z-of_z w64 _ (overflow_mul-total c) ∙ term_is c)))
    (small_fits (so_far c +ℤ term c) (small c).1)

pub loop-station-preserved : goal.loop-station-preserved
loop-station-preserved c =
    to_z-of_z w64 _ (overflow_add-total c)
    ∙ ap₂ ◌+ℤ◌ c.loop-station.invariant (to_z-of_z w64 _ (overflow_mul-total c) ∙ term_is c)
    ∙ sym (rw add-one (sum_more c.loop-station.station (λ s. weight_in c.args.self.now.weights.now s *ℤ (pos s ^ℤ c.args.power))))
