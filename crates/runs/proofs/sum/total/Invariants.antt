use Rattle.std.proofs.Common.{◌≡◌, ◌*ℤ◌, None}
use Rattle.algebra.specs.Sums.{sum, abs}
use Rattle.sources.specs.Searches.{first_where}
use Rattle.runs.specs.Totals.{lacks, value_of}
use Rattle.runs.proofs.sum.total.Given as goal

-- no station before this one is lacking, and both sums are those of the stations before it
abbrev pub invariant-loop-station : goal.invariant-loop-station
invariant-loop-station g l =
    (first_where l.station (λ s. lacks ((g.R.Rule.meaning l.rule).weighting.weight s) ((g.S.Source.meaning l.source).reading s)) ≡ None)
    × (l.sum ≡ sum l.station (λ s. (g.R.Rule.meaning l.rule).weighting.weight s *ℤ value_of ((g.S.Source.meaning l.source).reading s)))
    × (l.size ≡ sum l.station (λ s. abs ((g.R.Rule.meaning l.rule).weighting.weight s)))
