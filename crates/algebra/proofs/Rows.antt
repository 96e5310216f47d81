-- Where the rows of weights end, and which of them read the same from either end.
use Rattle.std.proofs.Common.{◌≡◌, ℕ, zero, suc, ◌+◌, ◌-◌, ◌*◌, ◌/◌, ◌%◌, ◌<◌, ◌≤◌, eqb, leb, ℤ, pos, ◌+ℤ◌, ◌-ℤ◌, ◌*ℤ◌, sym, ap, ◌∙◌, inl, inr, mul-le-mul_right, add-mul, mul-le-mul_left, arith}
use native.Mathlib.Nat.{div-add-mod, zero-div, mul-sub, mul-mod_right, mul-div_right, sub-zero}
use lib.IntN.{*ℤ-zero, +ℤ_comm}
use lib.Signed.{quot_z}
use Rattle.std.proofs.lemmas.Bool.{cases_lt, cases_eq, le-leb, lt-leb, eq-eqb, ne_eqb, cond-true, cond-false}
use Rattle.algebra.specs.Weights.{ZeroBeyond, Mirrored, shifted, panel_weight, stretch_weight, mirror_weight, refine_weight, reduce_weight}
use Rattle.algebra.proofs.Sums.{sum_none, sum_cong, sum_zero, sum_reverse}

-- a row moved up by a: from a on, below a, and past its end
pub shifted_from : (W : ℕ → ℤ) (a s : ℕ) → a ≤ s → shifted W a s ≡ W (s - a)
shifted_from W a s h = cond-true (leb a s) (W (s - a)) (pos 0) (le-leb a s h)

pub shifted_below : (W : ℕ → ℤ) (a s : ℕ) → s < a → shifted W a s ≡ pos 0
shifted_below W a s h = cond-false (leb a s) (W (s - a)) (pos 0) (lt-leb a s h)

shifted_none : (W : ℕ → ℤ) (s : ℕ) → shifted W 0 s ≡ W s
shifted_none W s = shifted_from W 0 s (omega arith) ∙ ap W (sub-zero s)

shifted_beyond : (L a : ℕ) (W : ℕ → ℤ) → ZeroBeyond L W → ZeroBeyond (a + L) (shifted W a)
shifted_beyond L a W z s h = shifted_from W a s (omega arith) ∙ z (s - a) (omega arith)

-- a stretched row: at the multiples of k, and between them
pub stretch_at : (k : ℕ) (W : ℕ → ℤ) (q : ℕ) → 1 ≤ k → stretch_weight k W (k * q) ≡ pos k *ℤ W q
stretch_at k W q h =
    cond-true (eqb (k * q % k) 0) (pos k *ℤ W (k * q / k)) (pos 0) (eq-eqb (k * q % k) 0 (mul-mod_right k q))
    ∙ ap (λ t. pos k *ℤ W t) (mul-div_right q h)

pub stretch_off : (k : ℕ) (W : ℕ → ℤ) (s : ℕ) → ¬ (s % k ≡ 0) → stretch_weight k W s ≡ pos 0
stretch_off k W s h = cond-false (eqb (s % k) 0) (pos k *ℤ W (s / k)) (pos 0) (ne_eqb (s % k) 0 h)

-- a multiple is the factor times the quotient
multiple : (k s : ℕ) → s % k ≡ 0 → s ≡ k * (s / k)
multiple k s e = omega (arith, div-add-mod s k)

-- where each row ends
pub panel_beyond : (m L : ℕ) (W : ℕ → ℤ) → ZeroBeyond L W → ZeroBeyond (m * L) (panel_weight m L W)
panel_beyond m L W z s h =
    sum_zero m (λ j. shifted W (j * L) s) (λ j k.
    let p : suc j * L ≤ m * L = mul-le-mul_right L k in
    shifted_beyond L (j * L) W z s (omega arith))

pub stretch_beyond : (k L : ℕ) (W : ℕ → ℤ) → 1 ≤ k → ZeroBeyond L W → ZeroBeyond (k * L) (stretch_weight k W)
stretch_beyond k L W p z s h = elim (cases_eq (s % k) 0) [
  | inl e ↦ elim (cases_lt L (s / k)) [
    | inl b ↦ ap (stretch_weight k W) (multiple k s e) ∙ stretch_at k W (s / k) p ∙ ap (λ t. pos k *ℤ t) (z (s / k) b) ∙ *ℤ-zero (pos k)
    | inr b ↦ let q : k * (s / k) ≤ k * L = mul-le-mul_left k b in absurd (omega (arith, multiple k s e))
  ]
  | inr n ↦ stretch_off k W s n
]

pub mirror_beyond : (L : ℕ) (W : ℕ → ℤ) → ZeroBeyond L (mirror_weight L W)
mirror_beyond L W s h = cond-false (leb s L) (W (L - s)) (pos 0) (lt-leb s L h)

refined_zero : (F : ℕ) (a b c : ℤ) → a ≡ pos 0 → b ≡ pos 0 → c ≡ pos 0 → (pos F *ℤ (a +ℤ b)) -ℤ c ≡ pos 0
refined_zero F a b c p q r = rw (p, q, r) (ap (λ t. t -ℤ pos 0) (*ℤ-zero (pos F)))

pub refine_beyond : (F L : ℕ) (W : ℕ → ℤ) → ZeroBeyond L W → ZeroBeyond (2 * L) (refine_weight F L W)
refine_beyond F L W z s h =
    refined_zero F (W s) (shifted W L s) (stretch_weight 2 W s)
    (z s (omega arith)) (shifted_beyond L L W z s (omega arith)) (stretch_beyond 2 L W (omega arith) z s h)

pub reduce_beyond : (g L : ℕ) (W : ℕ → ℤ) → ZeroBeyond L W → ZeroBeyond L (reduce_weight g W)
reduce_beyond g L W z s h = ap (λ t. quot_z t (pos g)) (z s h) ∙ ap pos (zero-div g)

-- of two panels that lie the same way from the two ends, one is the other mirrored
shifted_mirrored : (L a b : ℕ) (W : ℕ → ℤ) → ZeroBeyond L W → Mirrored L W → (s : ℕ) → s ≤ a + b + L → shifted W a s ≡ shifted W b (a + b + L - s)
shifted_mirrored L a b W z m s h = elim (cases_lt s a) [
  | inl p ↦ shifted_below W a s p ∙ sym (shifted_beyond L b W z (a + b + L - s) (omega arith))
  | inr p ↦ elim (cases_lt (a + L) s) [
    | inl q ↦ shifted_beyond L a W z s q ∙ sym (shifted_below W b (a + b + L - s) (omega arith))
    | inr q ↦
        let e : L - (s - a) ≡ a + b + L - s - b = omega arith in
        shifted_from W a s p ∙ m (s - a) (omega arith) ∙ ap W e ∙ sym (shifted_from W b (a + b + L - s) (omega arith))
  ]
]

-- a mirrored row makes mirrored rows
pub panel_mirrored : (m L : ℕ) (W : ℕ → ℤ) → ZeroBeyond L W → Mirrored L W → Mirrored (m * L) (panel_weight m L W)
panel_mirrored zero L W z m s h = sum_none (λ j. shifted W (j * L) s) ∙ sym (sum_none (λ j. shifted W (j * L) (0 * L - s)))
panel_mirrored (suc n) L W z m s h =
    sum_reverse n (λ j. shifted W (j * L) s)
    ∙ sum_cong (suc n) (λ j. shifted W ((n - j) * L) s) (λ j. shifted W (j * L) (suc n * L - s)) (λ j k.
    let e : (n - j) * L + j * L + L ≡ suc n * L = (let d : n - j + j ≡ n = omega arith in omega (arith, add-mul (n - j) j L, ap (λ t. t * L) d)) in
    shifted_mirrored L ((n - j) * L) (j * L) W z m s (omega arith) ∙ ap (λ t. shifted W (j * L) (t - s)) e)

-- what is left of a multiple of k after a multiple of k
rest_multiple : (k L s : ℕ) → s % k ≡ 0 → k * L - s ≡ k * (L - s / k)
rest_multiple k L s e = ap (λ t. k * L - t) (multiple k s e) ∙ sym (mul-sub k L (s / k))

pub stretch_mirrored : (k L : ℕ) (W : ℕ → ℤ) → 1 ≤ k → Mirrored L W → Mirrored (k * L) (stretch_weight k W)
stretch_mirrored k L W p m s h = elim (cases_eq (s % k) 0) [
  | inl e ↦ elim (cases_lt L (s / k)) [
    | inl b ↦ let q : k * suc L ≤ k * (s / k) = mul-le-mul_left k b in absurd (omega (arith, multiple k s e))
    | inr b ↦
        ap (stretch_weight k W) (multiple k s e) ∙ stretch_at k W (s / k) p ∙ ap (λ t. pos k *ℤ t) (m (s / k) b)
        ∙ sym (ap (stretch_weight k W) (rest_multiple k L s e) ∙ stretch_at k W (L - s / k) p)
  ]
  | inr n ↦
      stretch_off k W s n
      ∙ sym (stretch_off k W (k * L - s) (λ e.
      let b : s ≡ k * (L - (k * L - s) / k) = (let c : s ≡ k * L - (k * L - s) = omega arith in c ∙ rest_multiple k L (k * L - s) e) in
      n (ap (λ t. t % k) b ∙ mul-mod_right k (L - (k * L - s) / k))))
]

pub mirror_mirrored : (L : ℕ) (W : ℕ → ℤ) → Mirrored L W → Mirrored L (mirror_weight L W)
mirror_mirrored L W m s h =
    cond-true (leb s L) (W (L - s)) (pos 0) (le-leb s L h) ∙ m (L - s) (omega arith)
    ∙ sym (cond-true (leb (L - s) L) (W (L - (L - s))) (pos 0) (le-leb (L - s) L (omega arith)))

refined_same : (F : ℕ) (a b c x y v : ℤ) → a ≡ y → b ≡ x → c ≡ v → (pos F *ℤ (a +ℤ b)) -ℤ c ≡ (pos F *ℤ (x +ℤ y)) -ℤ v
refined_same F a b c x y v p q r = rw (p, q, r, +ℤ_comm y x)

pub refine_mirrored : (F L : ℕ) (W : ℕ → ℤ) → ZeroBeyond L W → Mirrored L W → Mirrored (2 * L) (refine_weight F L W)
refine_mirrored F L W z m s h =
    let e : 0 + L + L ≡ 2 * L = omega arith in
    let f : L + 0 + L ≡ 2 * L = omega arith in
    refined_same F (W s) (shifted W L s) (stretch_weight 2 W s) (W (2 * L - s)) (shifted W L (2 * L - s)) (stretch_weight 2 W (2 * L - s))
    (sym (shifted_none W s) ∙ shifted_mirrored L 0 L W z m s (omega arith) ∙ ap (λ t. shifted W L (t - s)) e)
    (shifted_mirrored L L 0 W z m s (omega arith) ∙ ap (λ t. shifted W 0 (t - s)) f ∙ shifted_none W (2 * L - s))
    (stretch_mirrored 2 L W (omega arith) m s h)

pub reduce_mirrored : (g L : ℕ) (W : ℕ → ℤ) → Mirrored L W → Mirrored L (reduce_weight g W)
reduce_mirrored g L W m s h = ap (λ t. quot_z t (pos g)) (m s h)
