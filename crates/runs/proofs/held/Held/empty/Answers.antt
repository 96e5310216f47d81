use Rattle.std.proofs.Common.{◌≡◌, ℕ, ℤ, None, Option, ap, arith}
use Rattle.sources.specs.Rows.{told}
use Rattle.runs.proofs.Changes.{blank_in_range, blank_beyond}
use Rattle.runs.proofs.held.Held.empty.Goals as goal

pub invariant_of-result : goal.invariant_of-result
invariant_of-result c =
    let none : (s : ℕ) → told c.empty.result s ≡ None = (λ s. ap (λ (f : ℕ → Option ℤ). f s) c.empty.ensures) in
    record { in_range = blank_in_range (told c.empty.result) none; none_beyond = blank_beyond (told c.empty.result) none; tolerance_most = omega arith }
