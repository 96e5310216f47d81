-- Absolute values of integers and of sums, and the sums of absolute values of the rows of weights.
use Rattle.std.proofs.Common.{◌≡◌, ℕ, zero, suc, ◌+◌, ◌-◌, ◌*◌, ◌/◌, ◌%◌, ◌<◌, ◌≤◌, true, false, cond, eqb, leb, ◌≢◌, ℤ, pos, negsuc, ◌+ℤ◌, ◌-ℤ◌, ◌*ℤ◌, neg_ℤ, nat_abs, ◌≤ℤ◌, sym, refl, ap, ◌∙◌, ap₂, inl, inr, mul-le-mul_right, mul-le-mul_left, le-div_iff_mul-le, arith}
use lib.IntN.{+ℤ_idl, zero-*ℤ, *ℤ_comm}
use lib.Signed.{≤ℤ_refl}
use borrow.Author.Differences.{le_out, ints}
use Rattle.std.proofs.lemmas.Bool.{cases_lt, le-leb, cond-true}
use Rattle.algebra.specs.Sums.{sum, abs}
use Rattle.algebra.specs.Weights.{ZeroBeyond, shifted, panel_weight, stretch_weight, mirror_weight, refine_weight, reduce_weight}
use Rattle.algebra.proofs.Integers.{*ℤ_assoc}
use Rattle.algebra.proofs.Sums.{sum_none, sum_more, sum_cong, sum_zero, sum_add, sum_scale, sum_split, sum_beyond, sum_reverse, sum_swap, sum_multiples}
use Rattle.algebra.proofs.Rows.{shifted_from, shifted_below, stretch_at, stretch_off}

-- the order
infixr 30 ◌≤∙◌
pub ◌≤∙◌ : {a b c : ℤ} → a ≤ℤ b → b ≤ℤ c → a ≤ℤ c
◌≤∙◌ {a} {b} {c} h k = omega (arith, ints)

pub ≤ℤ_add : {a b c d : ℤ} → a ≤ℤ b → c ≤ℤ d → (a +ℤ c) ≤ℤ (b +ℤ d)
≤ℤ_add {a} {b} {c} {d} h k = omega (arith, ints)

pub ≤ℤ_of_eq : {a b : ℤ} → a ≡ b → a ≤ℤ b
≤ℤ_of_eq {a} {b} e = omega (arith, ints)

-- the absolute value of a sum and of a product
pub abs_add : (a b : ℤ) → abs (a +ℤ b) ≤ℤ (abs a +ℤ abs b)
abs_add a b = omega (arith, ints)

pub abs_neg : (a : ℤ) → abs (neg_ℤ a) ≡ abs a
abs_neg a = omega (arith, ints)

pub abs_mul : (a b : ℤ) → abs (a *ℤ b) ≡ abs a *ℤ abs b
abs_mul (pos a) (pos b) = refl
abs_mul (pos a) (negsuc b) = abs_neg (pos (a * suc b))
abs_mul (negsuc a) (pos b) = abs_neg (pos (suc a * b))
abs_mul (negsuc a) (negsuc b) = refl

-- a sum of smaller terms is smaller
pub sum_le : (n : ℕ) (f g : ℕ → ℤ) → ((s : ℕ) → s < n → f s ≤ℤ g s) → sum n f ≤ℤ sum n g
sum_le zero f g h = rw (sum_none f, sum_none g) (≤ℤ_refl (pos 0))
sum_le (suc n) f g h =
    rw (sum_more n f, sum_more n g) (≤ℤ_add (sum_le n f g (λ s k. h s (omega arith))) (h n (omega arith)))

-- the absolute value of a sum is at most the sum of the absolute values
pub abs_sum : (n : ℕ) (f : ℕ → ℤ) → abs (sum n f) ≤ℤ sum n (λ s. abs (f s))
abs_sum zero f = rw (sum_none f, sum_none (λ s. abs (f s))) (≤ℤ_refl (pos 0))
abs_sum (suc n) f =
    rw (sum_more n f, sum_more n (λ s. abs (f s))) (abs_add (sum n f) (f n) ≤∙ ≤ℤ_add (abs_sum n f) (≤ℤ_refl (abs (f n))))

plus_abs : {a b : ℤ} (x : ℤ) → a ≤ℤ b → a ≤ℤ (b +ℤ abs x)
plus_abs {a} {b} x h = omega (arith, ints)

abs_plus : {b : ℤ} (x : ℤ) → pos 0 ≤ℤ b → abs x ≤ℤ (b +ℤ abs x)
abs_plus {b} x h = omega (arith, ints)

sum_abs_positive : (n : ℕ) (f : ℕ → ℤ) → pos 0 ≤ℤ sum n (λ s. abs (f s))
sum_abs_positive zero f = rw (sum_none (λ s. abs (f s))) (≤ℤ_refl (pos 0))
sum_abs_positive (suc n) f = rw (sum_more n (λ s. abs (f s))) (plus_abs (f n) (sum_abs_positive n f))

-- sums of absolute values grow with the number of terms, and each term is at most the sum
pub sum_abs_more : (n m : ℕ) (f : ℕ → ℤ) → n ≤ m → sum n (λ s. abs (f s)) ≤ℤ sum m (λ s. abs (f s))
sum_abs_more n zero f h = let e : n ≡ 0 = omega arith in rw e (≤ℤ_refl (sum 0 (λ s. abs (f s))))
sum_abs_more n (suc m) f h = elim (cases_lt m n) [
  | inl k ↦ let e : n ≡ suc m = omega arith in rw e (≤ℤ_refl (sum (suc m) (λ s. abs (f s))))
  | inr k ↦ rw (sum_more m (λ s. abs (f s))) (plus_abs (f m) (sum_abs_more n m f k))
]

pub abs_term : (n : ℕ) (f : ℕ → ℤ) (s : ℕ) → s < n → abs (f s) ≤ℤ sum n (λ s. abs (f s))
abs_term n f s h =
    let last : abs (f s) ≤ℤ sum (suc s) (λ s. abs (f s)) = rw (sum_more s (λ s. abs (f s))) (abs_plus (f s) (sum_abs_positive s f)) in
    last ≤∙ sum_abs_more (suc s) n f h

-- a factor that is not negative keeps the order
pub ≤ℤ_scale : (k : ℕ) {a b : ℤ} → a ≤ℤ b → (pos k *ℤ a) ≤ℤ (pos k *ℤ b)
≤ℤ_scale k {a} {b} h = omega (arith, ints, mul-le-mul_left k (le_out a b h))

≤ℤ_divide : (g C : ℕ) (x : ℤ) → 1 ≤ g → (pos g *ℤ x) ≤ℤ pos C → x ≤ℤ pos (C / g)
≤ℤ_divide g C (pos n) p h =
    let k : g * n ≤ C = omega (arith, ints) in
    let l : n ≤ C / g = (le-div_iff_mul-le p).1 (omega arith) in
    omega (arith, ints)
≤ℤ_divide g C (negsuc n) p h = omega (arith, ints)

-- m equal terms
sum_const : (m C : ℕ) → sum m (λ j. pos C) ≡ pos (m * C)
sum_const zero C = sum_none (λ j. pos C) ∙ ap pos (omega arith)
sum_const (suc m) C = sum_more m (λ j. pos C) ∙ ap (λ t. t +ℤ pos C) (sum_const m C) ∙ ap pos (omega arith)

-- the sum of a row moved up by a is the sum of the row
sum_moved : (L a N : ℕ) (f : ℕ → ℤ) → ZeroBeyond L f → a + L ≤ N → sum (suc N) (shifted f a) ≡ sum (suc L) f
sum_moved L a N f z h =
    let n : ℕ = suc L + (N - (a + L)) in
    let e : suc N ≡ a + n = omega arith in
    let rest : sum n (λ s. shifted f a (a + s)) ≡ sum n f = sum_cong n (λ s. shifted f a (a + s)) f (λ s k. shifted_from f a (a + s) (omega arith) ∙ ap f (omega arith)) in
    ap (λ t. sum t (shifted f a)) e
    ∙ sum_split a n (shifted f a)
    ∙ ap₂ ◌+ℤ◌ (sum_zero a (shifted f a) (λ s k. shifted_below f a s k)) (rest ∙ sum_beyond (suc L) (N - (a + L)) f (λ s k. z s k))
    ∙ +ℤ_idl (sum (suc L) f)

-- the sum of a row stretched by k is k times the sum of the row
sum_stretch : (k L : ℕ) (f : ℕ → ℤ) → sum (suc (suc k * L)) (stretch_weight (suc k) f) ≡ pos (suc k) *ℤ sum (suc L) f
sum_stretch k L f =
    sum_multiples k L (stretch_weight (suc k) f) (λ s h. stretch_off (suc k) f s h)
    ∙ sum_cong (suc L) (λ u. stretch_weight (suc k) f (suc k * u)) (λ u. pos (suc k) *ℤ f u) (λ u h. stretch_at (suc k) f u (omega arith))
    ∙ sym (sum_scale (pos (suc k)) (suc L) f)

-- the absolute values of a row that is moved up or stretched
abs_shifted : (W : ℕ → ℤ) (a s : ℕ) → abs (shifted W a s) ≡ shifted (λ s. abs (W s)) a s
abs_shifted W a s = elim (cases_lt s a) [
  | inl h ↦ ap abs (shifted_below W a s h) ∙ sym (shifted_below (λ s. abs (W s)) a s h)
  | inr h ↦ ap abs (shifted_from W a s h) ∙ sym (shifted_from (λ s. abs (W s)) a s h)
]

abs_stretch : (k : ℕ) (W : ℕ → ℤ) (s : ℕ) → abs (stretch_weight k W s) ≡ stretch_weight k (λ s. abs (W s)) s
abs_stretch k W s = elim (eqb (s % k) 0) as (λ b. abs (cond b (pos k *ℤ W (s / k)) (pos 0)) ≡ cond b (pos k *ℤ abs (W (s / k))) (pos 0)) [
  | true ↦ abs_mul (pos k) (W (s / k))
  | false ↦ refl
]

abs_refined : (F : ℕ) (a b c : ℤ) → abs ((pos F *ℤ (a +ℤ b)) -ℤ c) ≤ℤ ((pos F *ℤ (abs a +ℤ abs b)) +ℤ abs c)
abs_refined F a b c =
    abs_add (pos F *ℤ (a +ℤ b)) (neg_ℤ c)
    ≤∙ ≤ℤ_add (≤ℤ_of_eq (abs_mul (pos F) (a +ℤ b)) ≤∙ ≤ℤ_scale F (abs_add a b)) (≤ℤ_of_eq (abs_neg c))

-- the sums of the absolute values of each row, from a bound C on those of W
module _ (L C : ℕ) (W : ℕ → ℤ) (z : ZeroBeyond L W) (bound : sum (suc L) (λ s. abs (W s)) ≤ℤ pos C) where
  absolute_shifted : (a N : ℕ) → a + L ≤ N → sum (suc N) (λ s. abs (shifted W a s)) ≤ℤ pos C
  absolute_shifted a N h =
      ≤ℤ_of_eq (sum_cong (suc N) (λ s. abs (shifted W a s)) (shifted (λ s. abs (W s)) a) (λ s k. abs_shifted W a s))
      ≤∙ ≤ℤ_of_eq (sum_moved L a N (λ s. abs (W s)) (λ s k. ap abs (z s k)) h)
      ≤∙ bound

  pub absolute_panels : (m : ℕ) → sum (suc (m * L)) (λ s. abs (panel_weight m L W s)) ≤ℤ pos (m * C)
  absolute_panels m =
      let each : (j : ℕ) → j < m → sum (suc (m * L)) (λ s. abs (shifted W (j * L) s)) ≤ℤ pos C = (λ j h.
      let p : suc j * L ≤ m * L = mul-le-mul_right L h in
      absolute_shifted (j * L) (m * L) (omega arith)) in
      sum_le (suc (m * L)) (λ s. abs (panel_weight m L W s)) (λ s. sum m (λ j. abs (shifted W (j * L) s))) (λ s h. abs_sum m (λ j. shifted W (j * L) s))
      ≤∙ ≤ℤ_of_eq (sum_swap (suc (m * L)) m (λ s j. abs (shifted W (j * L) s)))
      ≤∙ sum_le m (λ j. sum (suc (m * L)) (λ s. abs (shifted W (j * L) s))) (λ j. pos C) each
      ≤∙ ≤ℤ_of_eq (sum_const m C)

  pub absolute_stretch : (k : ℕ) → 1 ≤ k → sum (suc (k * L)) (λ s. abs (stretch_weight k W s)) ≤ℤ pos (k * C)
  absolute_stretch zero p = absurd (omega arith)
  absolute_stretch (suc k) p =
      ≤ℤ_of_eq (sum_cong (suc (suc k * L)) (λ s. abs (stretch_weight (suc k) W s)) (stretch_weight (suc k) (λ s. abs (W s))) (λ s h. abs_stretch (suc k) W s))
      ≤∙ ≤ℤ_of_eq (sum_stretch k L (λ s. abs (W s)))
      ≤∙ ≤ℤ_scale (suc k) bound

  pub absolute_mirror : sum (suc L) (λ s. abs (mirror_weight L W s)) ≤ℤ pos C
  absolute_mirror =
      ≤ℤ_of_eq (sum_cong (suc L) (λ s. abs (mirror_weight L W s)) (λ s. abs (W (L - s))) (λ s h. ap abs (cond-true (leb s L) (W (L - s)) (pos 0) (le-leb s L (omega arith)))))
      ≤∙ ≤ℤ_of_eq (sym (sum_reverse L (λ s. abs (W s))))
      ≤∙ bound

  absolute_longer : sum (suc (2 * L)) (λ s. abs (W s)) ≤ℤ pos C
  absolute_longer =
      let e : suc (2 * L) ≡ suc L + L = omega arith in
      ≤ℤ_of_eq (ap (λ t. sum t (λ s. abs (W s))) e ∙ sum_beyond (suc L) L (λ s. abs (W s)) (λ s k. ap abs (z s k))) ≤∙ bound

  pub absolute_refined : (F : ℕ) → sum (suc (2 * L)) (λ s. abs (refine_weight F L W s)) ≤ℤ pos ((2 * F + 2) * C)
  absolute_refined F =
      let N : ℕ = suc (2 * L) in
      let double : ℕ → ℤ = λ s. abs (W s) +ℤ abs (shifted W L s) in
      let wide : ℕ → ℤ = λ s. abs (stretch_weight 2 W s) in
      sum_le N (λ s. abs (refine_weight F L W s)) (λ s. (pos F *ℤ double s) +ℤ wide s) (λ s h. abs_refined F (W s) (shifted W L s) (stretch_weight 2 W s))
      ≤∙ ≤ℤ_of_eq (sum_add N (λ s. pos F *ℤ double s) wide)
      ≤∙ ≤ℤ_of_eq (ap (λ t. t +ℤ sum N wide) (sym (sum_scale (pos F) N double)))
      ≤∙ ≤ℤ_of_eq (ap (λ t. (pos F *ℤ t) +ℤ sum N wide) (sum_add N (λ s. abs (W s)) (λ s. abs (shifted W L s))))
      ≤∙ ≤ℤ_add (≤ℤ_scale F (≤ℤ_add absolute_longer (absolute_shifted L (2 * L) (omega arith)))) (absolute_stretch 2 (omega arith))
      ≤∙ ≤ℤ_of_eq (ap pos (omega arith))

  pub absolute_reduced : (g : ℕ) → 1 ≤ g → ((s : ℕ) → W s ≡ pos g *ℤ reduce_weight g W s) → sum (suc L) (λ s. abs (reduce_weight g W s)) ≤ℤ pos (C / g)
  absolute_reduced g p e =
      let term : (s : ℕ) → s < suc L → pos g *ℤ abs (reduce_weight g W s) ≡ abs (W s) = (λ s h. sym (ap abs (e s) ∙ abs_mul (pos g) (reduce_weight g W s))) in
      let whole : (pos g *ℤ sum (suc L) (λ s. abs (reduce_weight g W s))) ≤ℤ pos C =
      ≤ℤ_of_eq (sum_scale (pos g) (suc L) (λ s. abs (reduce_weight g W s)))
      ≤∙ ≤ℤ_of_eq (sum_cong (suc L) (λ s. pos g *ℤ abs (reduce_weight g W s)) (λ s. abs (W s)) term)
      ≤∙ bound in
      ≤ℤ_divide g C (sum (suc L) (λ s. abs (reduce_weight g W s))) p whole

-- one term of a weighted sum: the tolerance counts only where the weight is not 0
band_term : (w d t : ℤ) → (w ≢ pos 0 → abs d ≤ℤ t) → abs (w *ℤ d) ≤ℤ (abs w *ℤ t)
band_term (pos zero) d t h = rw (zero-*ℤ d, zero-*ℤ t) (≤ℤ_refl (pos 0))
band_term (pos (suc n)) d t h =
    ≤ℤ_of_eq (abs_mul (pos (suc n)) d) ≤∙ ≤ℤ_scale (suc n) (h (λ e. let k : suc n ≡ 0 = ap nat_abs e in omega arith))
band_term (negsuc n) d t h =
    ≤ℤ_of_eq (abs_mul (negsuc n) d) ≤∙ ≤ℤ_scale (suc n) (h (λ e. let k : suc n ≡ 0 = ap nat_abs e in omega arith))

swap_factors : (a b c : ℤ) → a *ℤ (b *ℤ c) ≡ b *ℤ (a *ℤ c)
swap_factors a b c = sym (*ℤ_assoc a b c) ∙ ap (λ t. t *ℤ c) (*ℤ_comm a b) ∙ *ℤ_assoc b a c

-- stations within their tolerances give a weighted sum within the weighted tolerance
pub band : (n : ℕ) (W v p e : ℕ → ℤ) (q : ℤ) → ((s : ℕ) → s < n → W s ≢ pos 0 → abs ((q *ℤ v s) -ℤ p s) ≤ℤ (q *ℤ e s)) → abs (sum n (λ s. W s *ℤ ((q *ℤ v s) -ℤ p s))) ≤ℤ (q *ℤ sum n (λ s. abs (W s) *ℤ e s))
band n W v p e q h =
    let term : (s : ℕ) → s < n → abs (W s *ℤ ((q *ℤ v s) -ℤ p s)) ≤ℤ (q *ℤ (abs (W s) *ℤ e s)) = (λ s k.
    band_term (W s) ((q *ℤ v s) -ℤ p s) (q *ℤ e s) (h s k) ≤∙ ≤ℤ_of_eq (swap_factors (abs (W s)) q (e s))) in
    abs_sum n (λ s. W s *ℤ ((q *ℤ v s) -ℤ p s))
    ≤∙ sum_le n (λ s. abs (W s *ℤ ((q *ℤ v s) -ℤ p s))) (λ s. q *ℤ (abs (W s) *ℤ e s)) term
    ≤∙ ≤ℤ_of_eq (sym (sum_scale q n (λ s. abs (W s) *ℤ e s)))
