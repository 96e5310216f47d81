-- A load, station by station.
use Rattle.std.proofs.Common.{◌≡◌, ℕ, ◌+◌, cond, eqb, ltb, ℤ, Some, None, Option, ap, ◌∙◌, arith}
use Rattle.std.proofs.lemmas.Bool.Decides.{nat_tests}
use Rattle.sources.specs.Readings.{Readings}
use Rattle.runs.specs.Changes.{with_value, or_kept}
use Rattle.runs.proofs.Changes.{same_readings}

-- the readings of a source at the stations below n
abbrev pub taken : ℕ → Readings → Readings → Readings
taken n source r = record {
  reading = λ s. cond (ltb s n) (or_kept (source.reading s) (r.reading s)) (r.reading s);
  tolerance = r.tolerance;
}

none_at : (s : ℕ) (loaded kept : Option ℤ) → kept ≡ cond (ltb s 0) (or_kept loaded kept) kept
none_at s loaded kept = grind (arith, nat_tests)

-- at one station s, where the source has `loaded` and `kept` was there
skip_at : (s n : ℕ) (loaded kept : Option ℤ) → (s ≡ n → loaded ≡ None) → cond (ltb s n) (or_kept loaded kept) kept ≡ cond (ltb s (n + 1)) (or_kept loaded kept) kept
skip_at s n loaded kept none = grind (arith, nat_tests)

write_at : (s n : ℕ) (v : ℤ) (loaded kept : Option ℤ) → (s ≡ n → loaded ≡ Some v) → cond (eqb s n) (Some v) (cond (ltb s n) (or_kept loaded kept) kept) ≡ cond (ltb s (n + 1)) (or_kept loaded kept) kept
write_at s n v loaded kept some = grind (arith, nat_tests)

-- no station of the source, and nothing is taken
pub taken_none : (source r : Readings) → r ≡ taken 0 source r
taken_none source r =
    same_readings r.reading (taken 0 source r).reading r.tolerance
    (λ s. none_at s (source.reading s) (r.reading s))

module _ (source r : Readings) (n : ℕ) where
  -- a station at which the source has none
  pub taken_skip : source.reading n ≡ None → taken n source r ≡ taken (n + 1) source r
  taken_skip none =
      same_readings (taken n source r).reading (taken (n + 1) source r).reading r.tolerance
      (λ s. skip_at s n (source.reading s) (r.reading s) (λ e. ap source.reading e ∙ none))

  -- a station at which it has one
  pub taken_more : (v : ℤ) → source.reading n ≡ Some v → with_value n v (taken n source r) ≡ taken (n + 1) source r
  taken_more v some =
      same_readings (with_value n v (taken n source r)).reading (taken (n + 1) source r).reading r.tolerance
      (λ s. write_at s n v (source.reading s) (r.reading s) (λ e. ap source.reading e ∙ some))
