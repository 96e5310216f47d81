-- Steps of the loops that fill an array of weights.
use Rattle.std.proofs.Common.{◌≡◌, ℕ, zero, suc, ◌+◌, ◌-◌, ◌*◌, ◌/◌, ◌%◌, ◌^◌, ◌<◌, ◌≤◌, true, cond, eqb, ltb, leb, List, ◌++◌, length, get_or, drop, set, replicate, ℤ, pos, ◌+ℤ◌, ◌*ℤ◌, nat_abs, sym, ap, ◌∙◌, ⊎_elim, mul-le-mul_right, mul-le-mul, mul-le-mul_left, add-one, arith, length-set, get_or-set_other, get_or-set_same}
use native.Mathlib.Nat.{div-add-mod}
use lib.IntN.{+ℤ_idr}
use lib.ListN.{length-replicate}
use Rattle.std.proofs.lemmas.Bool.{cases_eq, cases_lt, cond-true, cond-false, cond_both, lt-ltb, le-ltb}
use Rattle.std.proofs.lemmas.Bool.Decides.{nat_tests}
use Rattle.std.proofs.lemmas.List.{get_or-append_right, get_or-drop}
use borrow.Author.Differences.{ints}
use Rattle.algebra.specs.Sums.{sum}
use Rattle.algebra.specs.Weights.{ZeroBeyond, shifted, panel_weight, stretch_weight}
use Rattle.algebra.proofs.Sums.{sum_none, sum_more}
use Rattle.algebra.proofs.Absolute.{abs_mul}
use Rattle.algebra.proofs.Rows.{shifted_from, shifted_below, stretch_at, stretch_off}
use borrow.Rule.Slice.PartMut.{mid_of, put_mid}
use Rattle.std.proofs.lemmas.List.{get_or-take}
use Rattle.std.proofs.lemmas.List.Edits.{get_or-between}
use Rattle.std.proofs.lemmas.Slice.{take-put_mid_below, between-put_mid, drop-put_mid}
use Rattle.rules.proofs.Loading.{zeros}
use Rattle.layers.specs.Filled.{Holds}

-- the weights of a panel are added to the first u entries
abbrev pub Added : List ℤ → (ℕ → ℤ) → (ℕ → ℤ) → ℕ → Type 0
Added ws e W u = (s : ℕ) → get_or ws s (pos 0) ≡ cond (ltb s u) (e s +ℤ W s) (e s)

-- the entry that comes next is still as it was
pub added_here : (ws : List ℤ) (e W : ℕ → ℤ) (u : ℕ) → Added ws e W u → get_or ws u (pos 0) ≡ e u
added_here ws e W u h = h u ∙ cond-false _ _ _ (le-ltb u u (omega arith))

pub added_more : (ws : List ℤ) (e W : ℕ → ℤ) (u : ℕ) (w : ℤ) → u < length ws → w ≡ get_or ws u (pos 0) +ℤ W u → Added ws e W u → Added (set ws u w) e W (u + 1)
added_more ws e W u w lt is h s =
    ⊎_elim
    (λ eq.
    let here : w ≡ e s +ℤ W s = is ∙ ap (λ t. t +ℤ W u) (added_here ws e W u h) ∙ ap (λ t. e t +ℤ W t) (sym eq) in
    ap (λ t. get_or (set ws u w) t (pos 0)) eq ∙ get_or-set_same ws u w (pos 0) lt ∙ here ∙ sym (cond-true _ _ _ (lt-ltb s (u + 1) (omega arith))))
    (λ ne.
    let same : ltb s u ≡ ltb s (u + 1) = grind (arith, nat_tests) in
    get_or-set_other ws u s w (pos 0) ne ∙ h s ∙ ap (λ t. cond t (e s +ℤ W s) (e s)) same)
    (cases_eq s u)

-- a part of a row from `first` on, k long, to which the weights of a panel are added
module _ (old part : List ℤ) (first k : ℕ) (within : first + k ≤ length old) (length-part : length part ≡ k) where
  row : List ℤ
  row = put_mid first k old part

  before_part : (s : ℕ) → s < first → get_or row s (pos 0) ≡ get_or old s (pos 0)
  unfolding row
  before_part s lt =
      sym (get_or-take first row s (pos 0) lt) ∙ ap (λ l. get_or l s (pos 0)) (take-put_mid_below first k old part first (omega arith) (omega arith))
      ∙ get_or-take first old s (pos 0) lt

  in_part : (s : ℕ) → first ≤ s → s < first + k → get_or row s (pos 0) ≡ get_or part (s - first) (pos 0)
  unfolding row
  in_part s ge lt =
      let at : first + (s - first) ≡ s = omega arith in
      ap (λ t. get_or row t (pos 0)) (sym at) ∙ sym (get_or-between row first (first + k) (s - first) (pos 0) (omega arith))
      ∙ ap (λ l. get_or l (s - first) (pos 0)) (between-put_mid first k old part (first + k) (omega arith) (omega arith))

  past_part : (s : ℕ) → first + k ≤ s → get_or row s (pos 0) ≡ get_or old s (pos 0)
  unfolding row
  past_part s ge =
      let at : first + k + (s - (first + k)) ≡ s = omega arith in
      ap (λ t. get_or row t (pos 0)) (sym at) ∙ sym (get_or-drop (first + k) row (s - (first + k)) (pos 0))
      ∙ ap (λ l. get_or l (s - (first + k)) (pos 0)) (drop-put_mid first k old part (first + k) (omega arith) (omega arith) length-part)
      ∙ get_or-drop (first + k) old (s - (first + k)) (pos 0) ∙ ap (λ t. get_or old t (pos 0)) at

  pub was_there : (s : ℕ) → s < k → get_or (mid_of first k old) s (pos 0) ≡ get_or old (first + s) (pos 0)
  was_there s lt = get_or-take k (drop first old) s (pos 0) lt ∙ get_or-drop first old s (pos 0)

  pub panel_added : (W : ℕ → ℤ) (u : ℕ) → k ≤ u → ((s : ℕ) → k ≤ s → W s ≡ pos 0) → Added part (λ s. get_or (mid_of first k old) s (pos 0)) W u → Holds (put_mid first k old part) (λ s. get_or old s (pos 0) +ℤ shifted W first s)
  unfolding row
  panel_added W u done none h s =
      ⊎_elim (λ lt. before_part s lt ∙ sym (+ℤ_idr _) ∙ ap (λ t. get_or old s (pos 0) +ℤ t) (sym (shifted_below W first s lt)))
      (λ ge.
      ⊎_elim
      (λ lt.
      let at : first + (s - first) ≡ s = omega arith in
      in_part s ge lt ∙ h (s - first) ∙ cond-true _ _ _ (lt-ltb (s - first) u (omega arith))
      ∙ ap (λ t. t +ℤ W (s - first)) (was_there (s - first) (omega arith) ∙ ap (λ t. get_or old t (pos 0)) at)
      ∙ ap (λ t. get_or old s (pos 0) +ℤ t) (sym (shifted_from W first s ge)))
      (λ past.
      past_part s past ∙ sym (+ℤ_idr _)
      ∙ ap (λ t. get_or old s (pos 0) +ℤ t) (sym (shifted_from W first s ge ∙ none (s - first) (omega arith))))
      (cases_lt s (first + k)))
      (cases_lt s first)

pub panels_none : (L : ℕ) (W : ℕ → ℤ) → Holds (replicate 1025 (pos 0)) (panel_weight 0 L W)
panels_none L W s = zeros 1025 s ∙ sym (sum_none _)

pub panels_more : (ws vs : List ℤ) (m L : ℕ) (W : ℕ → ℤ) → Holds ws (panel_weight m L W) → Holds vs (λ s. get_or ws s (pos 0) +ℤ shifted W (m * L) s) → Holds vs (panel_weight (m + 1) L W)
panels_more ws vs m L W h k s =
    k s ∙ ap (λ t. t +ℤ shifted W (m * L) s) (h s) ∙ sym (rw add-one (sum_more m (λ j. shifted W (j * L) s)))

sum_bound : (n b : ℕ) (f : ℕ → ℤ) → ((i : ℕ) → nat_abs (f i) ≤ b) → nat_abs (sum n f) ≤ n * b
sum_bound zero b f h = rw (sum_none f) (omega arith)
sum_bound (suc n) b f h = rw (sum_more n f) (omega (arith, ints, sum_bound n b f h, h n))

pub shifted_bound : (W : ℕ → ℤ) (b a s : ℕ) → ((i : ℕ) → nat_abs (W i) ≤ b) → nat_abs (shifted W a s) ≤ b
shifted_bound W b a s h = cond_both (leb a s) (W (s - a)) (pos 0) (λ t. nat_abs t ≤ b) (λ _. h (s - a)) (λ _. omega arith)

-- so many panels of weights that are at most 2^40 in size
pub panels_bound : (ws : List ℤ) (m L : ℕ) (W : ℕ → ℤ) → m ≤ 1024 → ((i : ℕ) → nat_abs (W i) ≤ 2 ^ 40) → Holds ws (panel_weight m L W) → (s : ℕ) → nat_abs (get_or ws s (pos 0)) ≤ 2 ^ 60
panels_bound ws m L W few b h s =
    omega (arith, ap nat_abs (h s), sum_bound m (2 ^ 40) (λ j. shifted W (j * L) s) (λ j. shifted_bound W (2 ^ 40) (j * L) s b), mul-le-mul_right (2 ^ 40) few)

pub few_panels : (m L : ℕ) → 1 ≤ L → m * L ≤ 1024 → m ≤ 1024
few_panels m L h k = omega (arith, mul-le-mul_left m h)

-- the first n entries are those of f, the others 0
abbrev pub Filled : List ℤ → ℕ → (ℕ → ℤ) → Type 0
Filled ws n f = ((s : ℕ) → get_or ws s (pos 0) ≡ cond (ltb s n) (f s) (pos 0)) × (length ws ≡ 1025)

pub filled_none : (f : ℕ → ℤ) → Filled (replicate 1025 (pos 0)) 0 f
filled_none f =
    (λ s. zeros 1025 s ∙ sym (cond-false _ _ _ (le-ltb s 0 (omega arith))), length-replicate 1025 (pos 0))

pub filled_all : (ws : List ℤ) (n : ℕ) (f : ℕ → ℤ) → ((s : ℕ) → n ≤ s → f s ≡ pos 0) → Filled ws n f → Holds ws f
filled_all ws n f z h s =
    ⊎_elim (λ lt. h.0 s ∙ cond-true _ _ _ (lt-ltb s n lt)) (λ ge. h.0 s ∙ cond-false _ _ _ (le-ltb s n ge) ∙ sym (z s ge))
    (cases_lt s n)

-- the first entries of an array of zeros, written anew
module _ (front : List ℤ) (last : ℕ) (length-front : length front ≡ last + 1) where
  pub zero_beyond : (s : ℕ) → last < s → get_or (front ++ drop (last + 1) (replicate 1025 (pos 0))) s (pos 0) ≡ pos 0
  zero_beyond s lt =
      get_or-append_right front (drop (last + 1) (replicate 1025 (pos 0))) (last + 1) s (pos 0) length-front (omega arith)
      ∙ get_or-drop (last + 1) (replicate 1025 (pos 0)) (s - (last + 1)) (pos 0) ∙ zeros 1025 (last + 1 + (s - (last + 1)))

-- an array that is a row up to its last station, and 0 beyond as the row is
pub holds_row : (ws : List ℤ) (f : ℕ → ℤ) (last L : ℕ) → last ≡ L → ((s : ℕ) → s ≤ last → get_or ws s (pos 0) ≡ f s) → ((s : ℕ) → last < s → get_or ws s (pos 0) ≡ pos 0) → ZeroBeyond L f → Holds ws f
holds_row ws f last L is told beyond none s = ⊎_elim (λ lt. beyond s lt ∙ sym (none s (omega arith))) (λ ge. told s ge) (cases_lt last s)

-- a product with a small count
pub scaled_bound : (k b c : ℕ) (x : ℤ) → k ≤ c → nat_abs x ≤ b → nat_abs (pos k *ℤ x) ≤ c * b
scaled_bound k b c x h l = rw (ap nat_abs (abs_mul (pos k) x)) (mul-le-mul h l)

pub stretch_bound : (k b : ℕ) (W : ℕ → ℤ) (s : ℕ) → ((i : ℕ) → nat_abs (W i) ≤ b) → nat_abs (stretch_weight k W s) ≤ k * b
stretch_bound k b W s h =
    cond_both (eqb (s % k) 0) (pos k *ℤ W (s / k)) (pos 0) (λ t. nat_abs t ≤ k * b)
    (λ _. scaled_bound k b k (W (s / k)) (omega arith) (h (s / k))) (λ _. omega arith)

-- no multiple of k stands between two that follow each other
between_multiples : (k u s : ℕ) → k * u < s → s < k * (u + 1) → s % k ≡ 0 → ⊥
between_multiples k u s l h e =
    let whole : k * (s / k) ≡ s = omega (arith, div-add-mod s k) in
    ⊎_elim (λ lt. omega (arith, whole, mul-le-mul_left k lt, l, h)) (λ ge. omega (arith, whole, mul-le-mul_left k ge, l)) (cases_lt u (s / k))

-- one more station of a stretched row
pub stretched_more : (ws : List ℤ) (k u : ℕ) (W : ℕ → ℤ) (w : ℤ) → 1 ≤ k → k * u < 1025 → w ≡ pos k *ℤ W u → Filled ws (k * u) (stretch_weight k W) → Filled (set ws (k * u) w) (k * (u + 1)) (stretch_weight k W)
stretched_more ws k u W w some lt is h = (
  λ s.
      ⊎_elim
      (λ eq.
      let test : ltb s (k * (u + 1)) ≡ true = lt-ltb s (k * (u + 1)) (omega arith) in
      let within : k * u < length ws = omega (arith, h.1) in
      ap (λ t. get_or (set ws (k * u) w) t (pos 0)) eq ∙ get_or-set_same ws (k * u) w (pos 0) within ∙ is ∙ sym (stretch_at k W u some) ∙
      ap (stretch_weight k W) (sym eq) ∙ sym (cond-true _ _ _ test))
      (λ ne.
      get_or-set_other ws (k * u) s w (pos 0) ne ∙ h.0 s ∙
      ⊎_elim
      (λ before. cond-true _ _ _ (lt-ltb s (k * u) before) ∙ sym (cond-true _ _ _ (lt-ltb s (k * (u + 1)) (omega arith))))
      (λ after.
      cond-false _ _ _ (le-ltb s (k * u) after) ∙
      ⊎_elim
      (λ inside. sym (stretch_off k W s (between_multiples k u s (omega arith) inside)) ∙ sym (cond-true _ _ _ (lt-ltb s (k * (u + 1)) inside)))
      (λ beyond. sym (cond-false _ _ _ (le-ltb s (k * (u + 1)) beyond))) (cases_lt s (k * (u + 1))))
      (cases_lt s (k * u)))
      (cases_eq s (k * u)),
  length-set ws (k * u) w ∙ h.1,
)
