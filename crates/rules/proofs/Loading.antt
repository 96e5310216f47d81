-- Lists of weights: their absolute sums, their moments, and what a list that passes every check promises.
use Rattle.std.proofs.Common.{◌≡◌, ℕ, zero, suc, ◌+◌, ◌-◌, ◌*◌, ◌%◌, ◌^◌, ◌<◌, ◌≤◌, Bool, true, false, cond, ◌&&◌, eqb, List, ◌++◌, drop, take, sum_by, length, get_or, replicate, ℤ, pos, ◌+ℤ◌, ◌*ℤ◌, nat_abs, Some, None, Decides, MatchOption, Option, reverse, sym, refl, ap, ◌∙◌, ap₂, inl, inr, mul-le-mul_left, arith, w64, SFits, to_z, of_z}
use mathlib.Core.Path.{fun_ext}
use native.Mathlib.Nat.{pow-le-pow_left, pow-le-pow_right, pow-succ'}
use native.Mathlib.Nat as nat
use borrow.Author.Differences.{ints}
use Rattle.std.proofs.lemmas.List.{drop-replicate, get_or-append_right, get_or-replicate, get_or-reverse, get_or_append_left, get_or_default, get_or_past, length-replicate, length-reverse, same_lists, take_all}
use Rattle.std.proofs.lemmas.List.Sums.{sum_by_more, sum_by_more_le, sum_by-take-le}
use Rattle.std.proofs.lemmas.Int.{to_z-of_z}
use Rattle.std.proofs.lemmas.Bool.{eqb-true, eq-eqb, eqb-false, both_ways, cases_eq, cases_lt, cond_both, and_cases, and_parts}
use Rattle.std.proofs.lemmas.Bool.Decides.{Decides-int_eq, same_from_decides}
use Rattle.std.specs.Option.{option_or}
use Rattle.std.specs.Ordering.{int_eq}
use Rattle.algebra.specs.Sums.{sum, abs, ◌^ℤ◌}
use Rattle.algebra.specs.Weights.{Exact, Mirrored}
use Rattle.algebra.proofs.Sums.{sum_none, sum_more}
use Rattle.algebra.proofs.Absolute.{≤ℤ_of_eq, abs_mul}
use Rattle.algebra.proofs.Moments.{symmetric_gain}
use Rattle.algebra.proofs.Powers.{pow_zero, pow_suc}
use Rattle.rules.specs.Meaning.{Sound, telling}
use Rattle.rules.specs.Tests.{decides_every}
use Rattle.rules.specs.Written.{first_failing, weight_in, absolute_sum, moment_of, integrates, last_station, reads_same, degree_told, accepted}

-- the absolute weights of a list, summed by station
absolute_upto : (ws : List ℤ) (n : ℕ) → n ≤ length ws → sum n (λ s. abs (weight_in ws s)) ≡ pos (sum_by nat_abs (take n ws))
absolute_upto ws zero h = sum_none (λ s. abs (weight_in ws s))
absolute_upto ws (suc n) h =
    let next : n + 1 ≡ suc n = omega arith in
    sum_more n (λ s. abs (weight_in ws s))
    ∙ ap (λ t. t +ℤ abs (weight_in ws n)) (absolute_upto ws n (omega arith))
    ∙ ap pos (sym (sum_by_more nat_abs ws n (pos 0) (omega arith)) ∙ ap (λ k. sum_by nat_abs (take k ws)) next)

absolute_list : (ws : List ℤ) → sum (length ws) (λ s. abs (weight_in ws s)) ≡ pos (absolute_sum ws)
absolute_list ws =
    absolute_upto ws (length ws) (omega arith) ∙ ap (λ xs. pos (sum_by nat_abs xs)) (take_all (length ws) ws (omega arith))

-- a power of a natural number is one
pub power_natural : (s k : ℕ) → pos s ^ℤ k ≡ pos (s ^ k)
power_natural s zero = pow_zero (pos s) ∙ ap pos (sym (nat.pow-zero s))
power_natural s (suc k) =
    pow_suc (pos s) k ∙ ap (λ t. pos s *ℤ t) (power_natural s k) ∙ ap pos (sym (pow-succ' s k))

-- the powers of the stations 0 to 16
pub power_small : (s k n : ℕ) → s ≤ 16 → k ≤ n → s ^ k ≤ 16 ^ n
power_small s k n h l = nat.le_trans (pow-le-pow_left h k) (pow-le-pow_right (omega arith) l)

-- a number of moderate size fits
pub small_fits : (z : ℤ) → nat_abs z ≤ 2 ^ 62 → SFits w64 z
small_fits z h = omega (arith, ints)

-- one term of a moment
pub term_size : (w : ℤ) (s k : ℕ) → s ≤ 16 → k ≤ 9 → nat_abs (w *ℤ (pos s ^ℤ k)) ≤ 16 ^ 9 * nat_abs w
term_size w s k h l =
    let e : nat_abs (w *ℤ (pos s ^ℤ k)) ≡ nat_abs w * s ^ k = ap (λ t. nat_abs (w *ℤ t)) (power_natural s k) ∙ ap nat_abs (abs_mul w (pos (s ^ k))) in
    omega (arith, e, mul-le-mul_left (nat_abs w) (power_small s k 9 h l))

-- a moment over the first n of up to 17 stations
pub moment_size : (ws : List ℤ) (n k : ℕ) → n ≤ length ws → n ≤ 17 → k ≤ 9 → nat_abs (sum n (λ s. weight_in ws s *ℤ (pos s ^ℤ k))) ≤ 16 ^ 9 * sum_by nat_abs (take n ws)
moment_size ws zero k g h l = rw (sum_none (λ s. weight_in ws s *ℤ (pos s ^ℤ k))) (omega arith)
moment_size ws (suc n) k g h l =
    let a = moment_size ws n k (omega arith) (omega arith) l in
    let b = term_size (weight_in ws n) n k (omega arith) l in
    let e = ap nat_abs (sum_more n (λ s. weight_in ws s *ℤ (pos s ^ℤ k))) in
    let next : n + 1 ≡ suc n = omega arith in
    let f = sym (sum_by_more nat_abs ws n (pos 0) (omega arith)) ∙ ap (λ t. sum_by nat_abs (take t ws)) next in
    omega (arith, ints, e)

-- the next term of a moment and the moment with it, for weights whose absolute values sum to at most 2^20
pub next_small : (ws : List ℤ) (n k : ℕ) → n < length ws → length ws ≤ 17 → k ≤ 9 → absolute_sum ws ≤ 1048576 → (nat_abs (weight_in ws n *ℤ (pos n ^ℤ k)) ≤ 2 ^ 62) × (nat_abs (sum n (λ s. weight_in ws s *ℤ (pos s ^ℤ k)) +ℤ (weight_in ws n *ℤ (pos n ^ℤ k))) ≤ 2 ^ 62)
next_small ws n k h l p b =
    let m = sum_by_more_le nat_abs ws n (pos 0) h in
    let t = term_size (weight_in ws n) n k (omega arith) p in
    let u = moment_size ws n k (omega arith) (omega arith) p in
    (omega arith, omega (arith, ints))

-- both sides of the test of a power
pub left_small : (ws : List ℤ) (k : ℕ) → length ws ≤ 17 → k ≤ 9 → absolute_sum ws ≤ 1048576 → nat_abs (pos (suc k) *ℤ moment_of ws k) ≤ 2 ^ 62
left_small ws k h l b =
    let m = moment_size ws (length ws) k (omega arith) h l in
    let part = sum_by-take-le nat_abs ws (length ws) in
    let e : nat_abs (pos (suc k) *ℤ moment_of ws k) ≡ suc k * nat_abs (moment_of ws k) = ap nat_abs (abs_mul (pos (suc k)) (moment_of ws k)) in
    let n : suc k * nat_abs (moment_of ws k) ≤ suc k * 2 ^ 56 = mul-le-mul_left (suc k) (omega arith) in
    omega (arith, e, n)

pub right_small : (D L k : ℕ) → D ≤ 1048576 → L ≤ 16 → k ≤ 9 → nat_abs (pos D *ℤ (pos L ^ℤ suc k)) ≤ 2 ^ 62
right_small D L k h l m =
    let e : nat_abs (pos D *ℤ (pos L ^ℤ suc k)) ≡ D * L ^ suc k = ap (λ t. nat_abs (pos D *ℤ t)) (power_natural L (suc k)) in
    let n : D * L ^ suc k ≤ D * 16 ^ 10 = mul-le-mul_left D (power_small L (suc k) 10 l (omega arith)) in
    omega (arith, e, n)

-- two words are equal as bits where they are as numbers
pub equal_bits : (a b : ℤ) → SFits w64 a → SFits w64 b → eqb (of_z w64 a) (of_z w64 b) ≡ int_eq a b
equal_bits a b f g =
    same_from_decides (eqb (of_z w64 a) (of_z w64 b)) (int_eq a b)
    (λ e. sym (to_z-of_z w64 a f) ∙ ap (to_z w64) (eqb-true (of_z w64 a) (of_z w64 b) e) ∙ to_z-of_z w64 b g, λ e. eq-eqb (of_z w64 a) (of_z w64 b) (ap (of_z w64) e))
    (Decides-int_eq a b)

-- none fails where each passes
failing_none : (n : ℕ) (p : ℕ → Bool) → ((k : ℕ) → k < n → p k ≡ true) → first_failing n p ≡ None
failing_none zero p h = refl
failing_none (suc n) p h =
    ap₂ (λ o b. option_or o (cond b None (Some n))) (failing_none n p (λ k l. h k (omega arith))) (h n (omega arith))

-- the first that fails
pub failing_found : (n N : ℕ) (p : ℕ → Bool) → n < N → first_failing n p ≡ None → p n ≡ false → first_failing N p ≡ Some n
failing_found n zero p l e h = absurd (omega arith)
failing_found n (suc N) p l e h = elim (cases_eq n N) [
  | inl q ↦
      let a : first_failing N p ≡ None = ap (λ k. first_failing k p) (sym q) ∙ e in
      let b : p N ≡ false = ap p (sym q) ∙ h in
      ap₂ (λ o t. option_or o (cond t None (Some N))) a b ∙ ap Some (sym q)
  | inr q ↦ ap (λ o. option_or o (cond (p N) None (Some N))) (failing_found n N p (omega arith) e h)
]

-- what a search from 0 finds is the lowest failing number
pub failing_first : (n : ℕ) (p : ℕ → Bool) (r : Option ℕ) → MatchOption r ((k : ℕ) → 0 ≤ k → k < n → p k ≡ true) (λ i. (0 ≤ i) × (i < n) × (p i ≡ false) × ((k : ℕ) → 0 ≤ k → k < i → p k ≡ true)) → r ≡ first_failing n p
failing_first n p None h = sym (failing_none n p (λ k l. h k (omega arith) l))
failing_first n p (Some i) h =
    sym (failing_found i n p h.1 (failing_none i p (λ k l. h.3 k (omega arith) l)) h.2)

none_parts : (o : Option ℕ) (b : Bool) (n : ℕ) → option_or o (cond b None (Some n)) ≡ None → (o ≡ None) × (b ≡ true)
none_parts None true n e = (refl, refl)
none_parts None false n e = (refl, (cc))
none_parts (Some k) b n e = ((cc), (cc))

-- where none fails, each passes
failing_passes : (n : ℕ) (p : ℕ → Bool) → first_failing n p ≡ None → (k : ℕ) → k < n → p k ≡ true
failing_passes zero p e k h = absurd (omega arith)
failing_passes (suc n) p e k h =
    let parts = none_parts (first_failing n p) (p n) n e in
    elim (cases_eq k n) [
      | inl q ↦ ap p q ∙ parts.1
      | inr q ↦ failing_passes n p parts.0 k (omega arith)
    ]

-- a list reads the same from both ends where it is its own reverse
abbrev same_at : List ℤ → ℕ → Bool
same_at ws s = int_eq (weight_in ws s) (weight_in ws (last_station ws - s))

opposite : (ws : List ℤ) (d : ℤ) (k : ℕ) → k < length ws → get_or (reverse ws) k d ≡ weight_in ws (last_station ws - k)
opposite ws d k h =
    get_or-reverse ws k d h ∙ get_or_default ws (length ws - 1 - k) d (pos 0) (omega arith)

pub decides_mirrored : (ws : List ℤ) → Decides (reads_same ws) (ws ≡ reverse ws)
decides_mirrored ws = (there, back)
  where
    there : reads_same ws ≡ true → ws ≡ reverse ws
    there e =
        same_lists ws (reverse ws) (sym (length-reverse ws))
        (λ k d h. get_or_default ws k d (pos 0) h
        ∙ (Decides-int_eq _ _).0 ((decides_every (length ws) (same_at ws)).0 e k h)
        ∙ sym (opposite ws d k h))

    back : ws ≡ reverse ws → reads_same ws ≡ true
    back e =
        (decides_every (length ws) (same_at ws)).1
        (λ k h. (Decides-int_eq _ _).1 (ap (λ xs. weight_in xs k) e ∙ opposite ws (pos 0) k h))

-- a row of zeros
pub zeros : (n s : ℕ) → get_or (replicate n (pos 0)) s (pos 0) ≡ pos 0
zeros n s = elim (cases_lt s n) [
  | inl h ↦ get_or-replicate n s (pos 0) (pos 0) h
  | inr h ↦ get_or_past (replicate n (pos 0)) s (pos 0) (omega (arith, length-replicate n (pos 0)))
]

-- a list with zeros after it has the same weights
pub padded : (ws : List ℤ) (m n : ℕ) → weight_in (ws ++ drop m (replicate n (pos 0))) ≡ weight_in ws
padded ws m n = fun_ext (λ s. elim (cases_lt s (length ws)) [
  | inl h ↦ get_or_append_left ws (drop m (replicate n (pos 0))) (pos 0) s h
  | inr h ↦
      get_or-append_right ws (drop m (replicate n (pos 0))) (length ws) s (pos 0) refl h
      ∙ ap (λ zs. get_or zs (s - length ws) (pos 0)) (drop-replicate m n (pos 0))
      ∙ zeros (n - m) (s - length ws)
      ∙ sym (get_or_past ws s (pos 0) h)
])

-- a list with a last station has a weight for each station up to it
stations_of : (ws : List ℤ) → 2 ≤ length ws → suc (last_station ws) ≡ length ws
stations_of ws h = omega arith

exact_list : (ws : List ℤ) (D d : ℕ) → 2 ≤ length ws → first_failing (suc d) (integrates ws D) ≡ None → Exact (last_station ws) (weight_in ws) D d
exact_list ws D d h e k l =
    ap (λ n. pos (suc k) *ℤ sum n (λ s. weight_in ws s *ℤ (pos s ^ℤ k))) (stations_of ws h)
    ∙ (Decides-int_eq _ _).0 (failing_passes (suc d) (integrates ws D) e k (omega arith))

mirrored_list : (ws : List ℤ) → 2 ≤ length ws → reads_same ws ≡ true → Mirrored (last_station ws) (weight_in ws)
mirrored_list ws h e s l =
    (Decides-int_eq _ _).0 ((decides_every (length ws) (same_at ws)).0 e s (omega arith))

exact_told : (ws : List ℤ) (D d : ℕ) → 2 ≤ length ws → first_failing (suc d) (integrates ws D) ≡ None → Exact (last_station ws) (weight_in ws) D (degree_told (reads_same ws) d)
exact_told ws D d h e =
    cond_both (reads_same ws && eqb (d % 2) 0) (suc d) d (Exact (last_station ws) (weight_in ws) D)
    (λ y. let p = and_parts (reads_same ws) (eqb (d % 2) 0) y in symmetric_gain (last_station ws) D d (weight_in ws) (mirrored_list ws h p.0) (eqb-true _ _ p.1) (exact_list ws D d h e))
    (λ _. exact_list ws D d h e)

degree_odd : (y : Bool) (d : ℕ) → y ≡ true → degree_told y d % 2 ≡ 1
degree_odd y d e =
    cond_both (y && eqb (d % 2) 0) (suc d) d (λ n. n % 2 ≡ 1)
    (λ t. let p : d % 2 ≡ 0 = eqb-true _ _ (and_parts y (eqb (d % 2) 0) t).1 in omega arith)
    (λ t. elim (and_cases y (eqb (d % 2) 0) t) [
      | inl n ↦ absurd (both_ways y n e)
      | inr n ↦ let p = eqb-false (d % 2) 0 n in omega arith
    ])

degree_low : (y : Bool) (d : ℕ) → d ≤ 9 → degree_told y d ≤ 11
degree_low y d h = cond_both (y && eqb (d % 2) 0) (suc d) d (λ n. n ≤ 11) (λ _. omega arith) (λ _. omega arith)

-- a list that passes every check promises what a rule does
pub accepted_sound : (ws : List ℤ) (D d : ℕ) → 2 ≤ length ws → length ws ≤ 17 → 1 ≤ D → D ≤ 1048576 → d ≤ 9 → absolute_sum ws ≤ 1048576 → first_failing (suc d) (integrates ws D) ≡ None → Sound (accepted ws D d)
accepted_sound ws D d least few one limit low small exact = record {
  span = record { least = omega arith; most = omega arith; stations = refl };
  denominator = record { least = one; most = omega arith };
  beyond = λ s h. get_or_past ws s (pos 0) (omega arith);
  ceiling = record {
    bounded = ≤ℤ_of_eq (ap (λ n. sum n (λ s. abs (weight_in ws s))) (stations_of ws least) ∙ absolute_list ws);
    most = omega arith;
  };
  exact = record { most = degree_low (reads_same ws) d low; exact = exact_told ws D d least exact };
  symmetry = record { mirrored = mirrored_list ws least; odd = degree_odd (reads_same ws) d };
}

-- what these numbers and a row of the list's weights tell
pub accepted_told : (ws : List ℤ) (D d n : ℕ) (y : Bool) (c : ℕ) (w : ℕ → ℤ) → y ≡ reads_same ws → n ≡ degree_told y d → c ≡ absolute_sum ws → w ≡ weight_in ws → telling (last_station ws) D n y c w ≡ accepted ws D d
accepted_told ws D d n y c w p q r s = rw (s, r, q, p) refl
