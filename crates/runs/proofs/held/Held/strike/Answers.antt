use Rattle.std.proofs.Common.{ℕ, ℤ, Option, ap}
use Rattle.sources.specs.Rows.{told}
use Rattle.runs.proofs.Changes.{strike_in_range, strike_beyond}
use Rattle.runs.proofs.held.Held.strike.Goals as goal

pub invariant_of-self : goal.invariant_of-self
invariant_of-self c =
    let h = c.args.self.now in
    record {
      in_range = strike_in_range (told h.row) (told c.strike.new.self) c.args.station c.strike.ensures h.in_range;
      none_beyond = strike_beyond (told h.row) (told c.strike.new.self) c.args.station c.strike.ensures h.none_beyond;
      tolerance_most = h.tolerance_most;
    }

pub returns : goal.returns
returns c = ap (λ (f : ℕ → Option ℤ). record { reading = f; tolerance = c.args.self.now.tolerance }) c.strike.ensures
