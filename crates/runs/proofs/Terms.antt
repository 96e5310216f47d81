-- What one station adds to a sum.
use Rattle.std.proofs.Common.{◌≡◌, ℕ, ◌+◌, ◌^◌, ◌<◌, ◌≤◌, true, false, cond, ℤ, pos, ◌+ℤ◌, ◌*ℤ◌, nat_abs, Some, None, Ok, Option, Result, sym, ap, ◌∙◌, ap₂, add-one, arith}
use Rattle.algebra.specs.Sums.{sum, abs}
use Rattle.algebra.proofs.Sums.{sum_more}
use Rattle.rules.specs.Meaning.{Meaning, Sound}
use Rattle.sources.specs.Readings.{Readings, SoundReadings}
use Rattle.rules.specs.declared.fault.Fault.{Fault}
use Rattle.rules.specs.declared.fault.Origin.TheVariants.{Run}
use Rattle.sources.specs.Searches.{first_where}
use Rattle.runs.specs.declared.band.Band.{Band}
use Rattle.runs.specs.Totals.{lacks, value_of, weighted_sum, absolute_sum, lowest_empty, empty_station, given, sum_of, total_of}
use Rattle.runs.proofs.Sizes.{size_bound, sum_bound}

-- the term of a station, as an answer
abbrev pub term_of : ℤ → Option ℤ → Option ℤ
term_of w o = cond (lacks w o) None (Some (w *ℤ value_of o))

-- an answer is there where nothing lacks, and then it is the product
pub term_there : (w t : ℤ) (o : Option ℤ) → Some t ≡ term_of w o → (lacks w o ≡ false) × (t ≡ w *ℤ value_of o)
term_there w t o e = grind arith

pub term_missing : (w : ℤ) (o : Option ℤ) → None ≡ term_of w o → lacks w o ≡ true
term_missing w o e = grind arith

-- the same at a station of a row of weights and readings
station_there : (W : ℕ → ℤ) (R : ℕ → Option ℤ) (n : ℕ) (w t : ℤ) (o : Option ℤ) → w ≡ W n → o ≡ R n → Some t ≡ term_of w o → (lacks (W n) (R n) ≡ false) × (t ≡ W n *ℤ value_of (R n))
station_there W R n w t o ew eo e = term_there (W n) t (R n) (e ∙ ap₂ term_of ew eo)

pub station_missing : (W : ℕ → ℤ) (R : ℕ → Option ℤ) (n : ℕ) (w : ℤ) (o : Option ℤ) → w ≡ W n → o ≡ R n → None ≡ term_of w o → lacks (W n) (R n) ≡ true
station_missing W R n w o ew eo e = term_missing (W n) (R n) (e ∙ ap₂ term_of ew eo)

-- one term more
sum_next : (n : ℕ) (f : ℕ → ℤ) (total term : ℤ) → total ≡ sum n f → term ≡ f n → total +ℤ term ≡ sum (n + 1) f
sum_next n f total term et ef = rw add-one (ap₂ ◌+ℤ◌ et ef ∙ sym (sum_more n f))

module _ (m : Meaning) (sound : Sound m) (n : ℕ) (within : n < m.weighting.stations) (w : ℤ) (ew : w ≡ m.weighting.weight n) where
  -- the weighted sum with the station n
  pub sum_step : (r : Readings) → SoundReadings r → (total t : ℤ) (o : Option ℤ) → total ≡ sum n (λ s. m.weighting.weight s *ℤ value_of (r.reading s)) → o ≡ r.reading n → Some t ≡ term_of w o →
      (lacks (m.weighting.weight n) (r.reading n) ≡ false) × (total +ℤ t ≡ sum (n + 1) (λ s. m.weighting.weight s *ℤ value_of (r.reading s))) × (nat_abs (total +ℤ t) ≤ 2 ^ 60)
  sum_step r true-readings total t o et eo e =
      let there = station_there m.weighting.weight r.reading n w t o ew eo e in
      let next = sum_next n (λ s. m.weighting.weight s *ℤ value_of (r.reading s)) total t et there.1 in
      (there.0, next, omega (arith, ap nat_abs next, sum_bound m r sound true-readings (n + 1) (omega arith)))

  -- the absolute sum with the station n
  pub size_step : (size a : ℤ) → size ≡ sum n (λ s. abs (m.weighting.weight s)) → a ≡ abs w →
      (size +ℤ a ≡ sum (n + 1) (λ s. abs (m.weighting.weight s))) × (nat_abs (size +ℤ a) ≤ 2 ^ 40)
  size_step size a es ea =
      let next = sum_next n (λ s. abs (m.weighting.weight s)) size a es (ea ∙ ap abs ew) in
      (next, omega (arith, ap nat_abs next, size_bound m sound (n + 1) (omega arith)))

-- the sums of all stations are the total
pub total_there : (m : Meaning) (r : Readings) (n : ℕ) (total size : ℤ) (denominator tolerance : ℕ) → n ≡ m.weighting.stations →
    first_where n (λ s. lacks (m.weighting.weight s) (r.reading s)) ≡ None → total ≡ sum n (λ s. m.weighting.weight s *ℤ value_of (r.reading s)) → size ≡ sum n (λ s. abs (m.weighting.weight s)) →
    denominator ≡ m.weighting.denominator → tolerance ≡ r.tolerance →
    ◌≡◌ {A = Result Band Fault} (Ok (record { value = (total, denominator); radius = pos tolerance *ℤ size })) (total_of m r)
total_there m r n total size denominator tolerance en none et es ed ee =
    let W = m.weighting.weight in
    let value : total ≡ weighted_sum m.weighting r = et ∙ ap (λ k. sum k (λ s. W s *ℤ value_of (r.reading s))) en in
    let radius : pos tolerance *ℤ size ≡ pos r.tolerance *ℤ absolute_sum m.weighting = ap₂ (λ k t. pos k *ℤ t) ee (es ∙ ap (λ k. sum k (λ s. abs (W s))) en) in
    let missing : lowest_empty m.weighting r ≡ None = ap (λ k. first_where k (λ s. lacks (W s) (r.reading s))) (sym en) ∙ none in
    (λ i. Ok (record { value = (value i, ed i); radius = radius i })) ∙ sym (ap (λ (o : Option ℕ). given (empty_station Run o) (sum_of m.weighting r)) missing)
