-- The band of a result, and the integrals of the polynomials that fit the readings.
use Rattle.std.proofs.Common.{◌≡◌, ℕ, zero, suc, ◌*◌, ◌≤◌, false, eqb, ◌≢◌, [], ◌∷◌, length, ℤ, pos, ◌+ℤ◌, ◌-ℤ◌, ◌*ℤ◌, neg_ℤ, nat_abs, ◌≤ℤ◌, Some, None, Ok, Option, sym, refl, ap, ◌∙◌, subst, ap₂, arith}
use native.Mathlib.Nat.{one-le-mul}
use lib.IntN.{*ℤ_comm}
use borrow.Author.Differences.{ints}
use Rattle.std.proofs.lemmas.Bool.{not-false, eqb-true}
use Rattle.algebra.specs.Sums.{abs, sum, ◌^ℤ◌}
use Rattle.algebra.specs.Weights.{Exact}
use Rattle.algebra.proofs.Absolute.{◌≤∙◌, ≤ℤ_of_eq, ≤ℤ_scale, band}
use Rattle.algebra.proofs.Ring.{over, reads, identity}
use Rattle.algebra.proofs.Sums.{sum_none, sum_more, sum_cong, sum_add, sum_neg, sum_scale, sum_scale_right, sum_swap}
use Rattle.rules.specs.Meaning.{Meaning, Sound}
use Rattle.rules.specs.declared.fault.Origin.TheVariants.{Run}
use Rattle.sources.specs.Readings.{Readings}
use Rattle.sources.proofs.Searches.{first_none}
use Rattle.runs.specs.declared.estimate.Estimate.{Estimate}
use Rattle.runs.specs.Fractions.{Proper}
use Rattle.runs.specs.Ledger.{estimate_of, result_of}
use Rattle.runs.specs.Totals.{absolute_sum, empty_station, lacks, lowest_empty, value_of, weighted_sum}
use Rattle.runs.specs.Verdicts.{inside, shared}
use Rattle.runs.proofs.Judging.{given_ok}
use Rattle.claims.specs.Polynomials.{Fits, OfDegree, Polynomial, coefficient, integral, numerator_at, power_integrals}

-- one more power
opened : (N k a p d D : ℤ) → ((N *ℤ k) +ℤ ((a *ℤ p) *ℤ d)) *ℤ D ≡ ((N *ℤ D) *ℤ k) +ℤ ((a *ℤ d) *ℤ (D *ℤ p))
opened N k a p d D =
    over (N ∷ k ∷ a ∷ p ∷ d ∷ D ∷ []) (λ ρ u v w x y z. simp (u, v, w, x, y, z, reads) (identity ρ _ _ (omega arith)))

closed : (d S k a M : ℤ) → ((d *ℤ S) *ℤ k) +ℤ ((a *ℤ d) *ℤ (k *ℤ M)) ≡ (d *ℤ k) *ℤ (S +ℤ (a *ℤ M))
closed d S k a M =
    over (d ∷ S ∷ k ∷ a ∷ M ∷ []) (λ ρ u v w x y. simp (u, v, w, x, y, reads) (identity ρ _ _ (omega arith)))

-- an exact rule integrates each power, so it integrates Σ aᵢ·xⁱ:
-- Σ aᵢ·Lⁱ⁺¹/(i+1) = Σ aᵢ·M(i) / D, with M(i) = Σ W(s)·sⁱ
pub integral_exact : (W a : ℕ → ℤ) (L D d n : ℕ) → Exact L W D d → n ≤ suc d →
    (power_integrals a L n).numerator *ℤ pos D
    ≡ pos (power_integrals a L n).denominator *ℤ sum n (λ i. a i *ℤ sum (suc L) (λ s. W s *ℤ (pos s ^ℤ i)))
unfolding power_integrals
integral_exact W a L D d zero exact h =
    ap (λ (k : ℕ). pos k) (omega arith) ∙ sym (ap (λ (t : ℤ). pos 1 *ℤ t) (sum_none (λ i. a i *ℤ sum (suc L) (λ s. W s *ℤ (pos s ^ℤ i)))))
integral_exact W a L D d (suc n) exact h =
    let M : ℕ → ℤ = λ i. sum (suc L) (λ s. W s *ℤ (pos s ^ℤ i)) in
    let N : ℤ = (power_integrals a L n).numerator in
    let k : ℕ = (power_integrals a L n).denominator in
    opened N (pos (suc n)) (a n) (pos L ^ℤ suc n) (pos k) (pos D)
    ∙ ap₂ (λ (u : ℤ) (v : ℤ). (u *ℤ pos (suc n)) +ℤ ((a n *ℤ pos k) *ℤ v)) (integral_exact W a L D d n exact (omega arith)) (sym (exact n (omega arith)))
    ∙ closed (pos k) (sum n (λ i. a i *ℤ M i)) (pos (suc n)) (a n) (M n)
    ∙ ap (λ (t : ℤ). pos (k * suc n) *ℤ t) (sym (sum_more n (λ i. a i *ℤ M i)))

-- the denominator of Σ aᵢ·Lⁱ⁺¹/(i+1) is positive
pub power_integrals_proper : (a : ℕ → ℤ) (L n : ℕ) → 1 ≤ (power_integrals a L n).denominator
unfolding power_integrals
power_integrals_proper a L zero = omega arith
power_integrals_proper a L (suc n) = one-le-mul (power_integrals_proper a L n) (omega arith)

-- Σ W(s)·Σ aᵢ·sⁱ = Σ aᵢ·M(i)
turned : (w a p : ℤ) → w *ℤ (a *ℤ p) ≡ a *ℤ (w *ℤ p)
turned w a p = over (w ∷ a ∷ p ∷ []) (λ ρ u v x. simp (u, v, x, reads) (identity ρ _ _ (omega arith)))

pub weighted_value : (n : ℕ) (W : ℕ → ℤ) (p : Polynomial) →
    sum n (λ s. W s *ℤ numerator_at p s) ≡ sum (length p.coefficients) (λ i. coefficient p i *ℤ sum n (λ s. W s *ℤ (pos s ^ℤ i)))
weighted_value n W p =
    let l : ℕ = length p.coefficients in
    let f : ℕ → ℕ → ℤ = λ s i. coefficient p i *ℤ (W s *ℤ (pos s ^ℤ i)) in
    sum_cong n (λ s. W s *ℤ numerator_at p s) (λ s. sum l (λ i. f s i))
    (λ s h. sum_scale (W s) l (λ i. coefficient p i *ℤ (pos s ^ℤ i)) ∙ sum_cong l (λ i. W s *ℤ (coefficient p i *ℤ (pos s ^ℤ i))) (λ i. f s i) (λ i k. turned (W s) (coefficient p i) (pos s ^ℤ i)))
    ∙ sum_swap n l f
    ∙ sum_cong l (λ i. sum n (λ s. f s i)) (λ i. coefficient p i *ℤ sum n (λ s. W s *ℤ (pos s ^ℤ i)))
    (λ i h. sym (sum_scale (coefficient p i) n (λ s. W s *ℤ (pos s ^ℤ i))))

-- Σ W(s)·(q·v(s) − p(s)) = q·Σ W(s)·v(s) − Σ W(s)·p(s)
spread : (w q v p : ℤ) → w *ℤ ((q *ℤ v) -ℤ p) ≡ (q *ℤ (w *ℤ v)) +ℤ neg_ℤ (w *ℤ p)
spread w q v p = over (w ∷ q ∷ v ∷ p ∷ []) (λ ρ a b c d. simp (a, b, c, d, reads) (identity ρ _ _ (omega arith)))

deviation : (n : ℕ) (W v p : ℕ → ℤ) (q : ℤ) →
    sum n (λ s. W s *ℤ ((q *ℤ v s) -ℤ p s)) ≡ (q *ℤ sum n (λ s. W s *ℤ v s)) -ℤ sum n (λ s. W s *ℤ p s)
deviation n W v p q =
    sum_cong n (λ s. W s *ℤ ((q *ℤ v s) -ℤ p s)) (λ s. (q *ℤ (W s *ℤ v s)) +ℤ neg_ℤ (W s *ℤ p s)) (λ s h. spread (W s) q (v s) (p s))
    ∙ sum_add n (λ s. q *ℤ (W s *ℤ v s)) (λ s. neg_ℤ (W s *ℤ p s))
    ∙ ap₂ ◌+ℤ◌ (sym (sum_scale q n (λ s. W s *ℤ v s))) (sum_neg n (λ s. W s *ℤ p s))

-- where nothing lacks, a weight other than 0 has a reading
read_there : (w : ℤ) (o : Option ℤ) → lacks w o ≡ false → w ≢ pos 0 → o ≡ Some (value_of o)
read_there w (Some v) none h = refl
read_there w None none h =
    absurd (h (zero_size w (eqb-true (nat_abs w) 0 (not-false (eqb (nat_abs w) 0) none))))
  where
    zero_size : (w : ℤ) → nat_abs w ≡ 0 → w ≡ pos 0
    zero_size w e = omega (arith, ints)

not_empty : (o : Option ℕ) → empty_station Run o ≡ None → o ≡ None
not_empty o e = grind arith

-- the weighted sum of the readings is within the radius of that of the values: |q·V − P| ≤ q·R
sum_within : (m : Meaning) (r : Readings) → lowest_empty m.weighting r ≡ None → (p : Polynomial) → Fits p r →
    abs ((pos p.denominator *ℤ weighted_sum m.weighting r) -ℤ sum m.weighting.stations (λ s. m.weighting.weight s *ℤ numerator_at p s))
    ≤ℤ (pos p.denominator *ℤ (pos r.tolerance *ℤ absolute_sum m.weighting))
sum_within m r full p fits =
    let n : ℕ = m.weighting.stations in
    let W : ℕ → ℤ = m.weighting.weight in
    let q : ℤ = pos p.denominator in
    let t : ℤ = pos r.tolerance in
    let v : ℕ → ℤ = λ s. value_of (r.reading s) in
    ≤ℤ_of_eq (ap abs (sym (deviation n W v (numerator_at p) q)))
    ≤∙ band n W v (numerator_at p) (λ s. t) q (λ s h w. fits s (v s) (read_there (W s) (r.reading s) (first_none (λ s. lacks (W s) (r.reading s)) n full s h) w))
    ≤∙ ≤ℤ_of_eq (ap (λ (x : ℤ). q *ℤ x) (sym (sum_scale_right t n (λ s. abs (W s))) ∙ *ℤ_comm (absolute_sum m.weighting) t))

-- so d·P lies from d·q·(V − R) to d·q·(V + R)
above : (x y p : ℤ) → abs (x -ℤ p) ≤ℤ y → (x -ℤ y) ≤ℤ p
above x y p h = omega (arith, ints)

beneath : (x y p : ℤ) → abs (x -ℤ p) ≤ℤ y → p ≤ℤ (x +ℤ y)
beneath x y p h = omega (arith, ints)

low_factor : (V R d q : ℤ) → (V -ℤ R) *ℤ (d *ℤ q) ≡ d *ℤ ((q *ℤ V) -ℤ (q *ℤ R))
low_factor V R d q = over (V ∷ R ∷ d ∷ q ∷ []) (λ ρ a b c e. simp (a, b, c, e, reads) (identity ρ _ _ (omega arith)))

high_factor : (V R d q : ℤ) → d *ℤ ((q *ℤ V) +ℤ (q *ℤ R)) ≡ (V +ℤ R) *ℤ (d *ℤ q)
high_factor V R d q = over (V ∷ R ∷ d ∷ q ∷ []) (λ ρ a b c e. simp (a, b, c, e, reads) (identity ρ _ _ (omega arith)))

between : (V R P x : ℤ) (d q : ℕ) → x ≡ pos d *ℤ P → abs ((pos q *ℤ V) -ℤ P) ≤ℤ (pos q *ℤ R) →
    (((V -ℤ R) *ℤ pos (d * q)) ≤ℤ x) × (x ≤ℤ ((V +ℤ R) *ℤ pos (d * q)))
between V R P x d q e h = (
  ≤ℤ_of_eq (low_factor V R (pos d) (pos q)) ≤∙ (≤ℤ_scale d (above (pos q *ℤ V) (pos q *ℤ R) P h) ≤∙ ≤ℤ_of_eq (sym e)),
  ≤ℤ_of_eq e ≤∙ (≤ℤ_scale d (beneath (pos q *ℤ V) (pos q *ℤ R) P h) ≤∙ ≤ℤ_of_eq (high_factor V R (pos d) (pos q))),
)

-- the integral of a polynomial that fits the readings lies in the band of their result
pub band_holds : (m : Meaning) → Sound m → (r : Readings) (e : Estimate) → result_of m r ≡ Ok e → (p : Polynomial) → OfDegree m.degree p → Fits p r → inside (integral p m.span) e
band_holds m sound r e there p small fits =
    let result = given_ok (empty_station Run (lowest_empty m.weighting r)) e (estimate_of m r) (sym there) in
    let within = sum_within m r (not_empty (lowest_empty m.weighting r) result.1) p fits in
    let n : ℕ = length p.coefficients in
    let W : ℕ → ℤ = m.weighting.weight in
    let exact =
    integral_exact W (coefficient p) m.span m.weighting.denominator m.degree n sound.exact.exact (omega arith)
    ∙ ap (λ (t : ℤ). pos (power_integrals (coefficient p) m.span n).denominator *ℤ t) (
    sym (weighted_value (suc m.span) W p) ∙ ap (λ (k : ℕ). sum k (λ s. W s *ℤ numerator_at p s)) (sym sound.span.stations)
    ) in
    subst (λ (x : Estimate). inside (integral p m.span) x) (sym result.0)
    (between (weighted_sum m.weighting r) (pos r.tolerance *ℤ absolute_sum m.weighting) (sum m.weighting.stations (λ s. W s *ℤ numerator_at p s))
    ((power_integrals (coefficient p) m.span n).numerator *ℤ pos m.weighting.denominator) (power_integrals (coefficient p) m.span n).denominator p.denominator exact within)

-- the integral has a positive denominator
pub integral_proper : (p : Polynomial) (d L : ℕ) → OfDegree d p → Proper (integral p L)
integral_proper p d L h = one-le-mul (power_integrals_proper (coefficient p) L (length p.coefficients)) h.proper

-- a bound on the degree may grow
pub of_lesser_degree : (d e : ℕ) (p : Polynomial) → d ≤ e → OfDegree d p → OfDegree e p
of_lesser_degree d e p h k = record { few = omega arith; proper = k.proper }

-- two runs over one span and a polynomial that fits the readings of both: its integral lies in both bands
pub common_shared : (m n : Meaning) → Sound m → Sound n → m.span ≡ n.span → (r t : Readings) (e f : Estimate) → result_of m r ≡ Ok e → result_of n t ≡ Ok f → (p : Polynomial) → OfDegree m.degree p → OfDegree n.degree p → Fits p r → Fits p t → shared e f
common_shared m n sm sn same r t e f re tf p dm dn fr ft = (
  integral p m.span,
  integral_proper p m.degree m.span dm,
  band_holds m sm r e re p dm fr,
  subst (λ (L : ℕ). inside (integral p L) f) (sym same) (band_holds n sn t f tf p dn ft),
)
