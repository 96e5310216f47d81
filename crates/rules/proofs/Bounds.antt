-- Bounds that follow from what a rule promises.
use Rattle.std.proofs.Common.{ℕ, ◌^◌, ◌≤◌, nat_abs, ap, ⊎_elim, arith}
use borrow.Author.Differences.{le_out}
use Rattle.std.proofs.lemmas.Bool.{cases_lt}
use Rattle.algebra.proofs.Absolute.{abs_term}
use Rattle.rules.specs.Meaning.{Meaning, Sound}

-- each weight is at most 2^40 in size
pub weight_bound : (m : Meaning) → Sound m → (s : ℕ) → nat_abs (m.weighting.weight s) ≤ 2 ^ 40
weight_bound m h s =
    ⊎_elim (λ lt. omega (arith, h.ceiling.most, le_out _ _ h.ceiling.bounded, le_out _ _ (abs_term m.weighting.stations m.weighting.weight s lt)))
    (λ ge. omega (arith, ap nat_abs (h.beyond s (omega (arith, h.span.stations)))))
    (cases_lt s m.weighting.stations)
