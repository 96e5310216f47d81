-- Fractions compared by whole parts and rests.
use Rattle.std.proofs.Common.{◌≡◌, ℕ, ◌*◌, ◌/◌, ◌<◌, ◌≤◌, true, false, ltb, ◌≢◌, ℤ, pos, negsuc, ◌+ℤ◌, ◌*ℤ◌, nat_abs, ◌≤ℤ◌, ◌<ℤ◌, sym, ap, ◌∙◌, ap₂, ⊎_elim, mul-le-mul_right, mod-lt, mul_comm, arith}
use native.Mathlib.Nat.{div-add-mod}
use lib.IntN.{*ℤ_comm}
use lib.Signed.{lt_z}
use borrow.Author.Differences.{ints, true_is_lt, false_is_lt}
use Rattle.std.proofs.lemmas.Int.{by_lt_z}
use Rattle.std.proofs.lemmas.Bool.{cases_lt, lt-ltb, le-ltb}
use Rattle.std.specs.Int.{int_div_euclid, int_rem_euclid}
use Rattle.algebra.proofs.Integers.{*ℤ_distl, *ℤ_assoc}
use Rattle.algebra.proofs.Absolute.{≤ℤ_scale}

-- a number is its whole part times d and its rest
euclid : (x : ℤ) (d : ℕ) → 1 ≤ d → x ≡ (int_div_euclid x (pos d) *ℤ pos d) +ℤ pos (nat_abs (int_rem_euclid x (pos d)))
euclid (pos a) d h = ap pos (omega (arith, div-add-mod a d, mul_comm (a / d) d))
euclid (negsuc a) d h =
    omega (arith, ints, div-add-mod a d, mul_comm (a / d) d, mod-lt a h)

rest_less : (x : ℤ) (d : ℕ) → 1 ≤ d → nat_abs (int_rem_euclid x (pos d)) < d
rest_less (pos a) d h = omega (arith, mod-lt a h)
rest_less (negsuc a) d h = omega arith

-- the parts times another denominator
scaled : (x : ℤ) (b d r : ℕ) → ((x *ℤ pos b) +ℤ pos r) *ℤ pos d ≡ (pos (b * d) *ℤ x) +ℤ pos (r * d)
scaled x b d r =
    *ℤ_comm ((x *ℤ pos b) +ℤ pos r) (pos d)
    ∙ *ℤ_distl (pos d) (x *ℤ pos b) (pos r)
    ∙ ap₂ ◌+ℤ◌ (*ℤ_comm (pos d) (x *ℤ pos b) ∙ *ℤ_assoc x (pos b) (pos d) ∙ *ℤ_comm x (pos (b * d))) (*ℤ_comm (pos d) (pos r))

-- a whole step outweighs the rests
step_below : (s t : ℤ) (p u w : ℕ) → (s +ℤ pos p) ≤ℤ t → u < p → true ≡ lt_z (s +ℤ pos u) (t +ℤ pos w)
step_below s t p u w h l = true_is_lt (s +ℤ pos u) (t +ℤ pos w) (omega (arith, ints))

step_above : (s t : ℤ) (p u w : ℕ) → (t +ℤ pos p) ≤ℤ s → w < p → false ≡ lt_z (s +ℤ pos u) (t +ℤ pos w)
step_above s t p u w h l = false_is_lt (s +ℤ pos u) (t +ℤ pos w) (omega (arith, ints))

same_step : (s : ℤ) (u w : ℕ) → ltb u w ≡ lt_z (s +ℤ pos u) (s +ℤ pos w)
same_step s u w =
    ⊎_elim (λ l. lt-ltb u w l ∙ true_is_lt (s +ℤ pos u) (s +ℤ pos w) (omega (arith, ints)))
    (λ g. le-ltb u w g ∙ false_is_lt (s +ℤ pos u) (s +ℤ pos w) (omega (arith, ints))) (cases_lt u w)

strictly : (x y : ℤ) → x ≢ y → y ≤ℤ x → y <ℤ x
strictly x y differ h = omega (arith, ints)

is_below : (x y : ℤ) → x <ℤ y → true ≡ lt_z x y
is_below x y h = true_is_lt x y (omega (arith, ints))

is_above : (x y : ℤ) → y <ℤ x → false ≡ lt_z x y
is_above x y h = false_is_lt x y (omega (arith, ints))

-- one more whole, scaled
whole_step : (p : ℕ) (x y : ℤ) → x <ℤ y → ((pos p *ℤ x) +ℤ pos p) ≤ℤ (pos p *ℤ y)
whole_step p x y h =
    let more : (x +ℤ pos 1) ≤ℤ y = omega (arith, ints) in
    let wide : (pos p *ℤ (x +ℤ pos 1)) ≤ℤ (pos p *ℤ y) = ≤ℤ_scale p more in
    let parts : pos p *ℤ (x +ℤ pos 1) ≡ (pos p *ℤ x) +ℤ pos p = *ℤ_distl (pos p) x (pos 1) ∙ ap (λ (k : ℕ). (pos p *ℤ x) +ℤ pos k) (omega arith) in
    rw (sym parts) wide

module _ (a c : ℤ) (b d : ℕ) (hb : 1 ≤ b) (hd : 1 ≤ d) where
  -- both cross products in parts over one scale
  first_parts : a *ℤ pos d ≡ (pos (b * d) *ℤ int_div_euclid a (pos b)) +ℤ pos (nat_abs (int_rem_euclid a (pos b)) * d)
  first_parts = ap (λ (t : ℤ). t *ℤ pos d) (euclid a b hb) ∙ scaled (int_div_euclid a (pos b)) b d (nat_abs (int_rem_euclid a (pos b)))

  second_parts : c *ℤ pos b ≡ (pos (b * d) *ℤ int_div_euclid c (pos d)) +ℤ pos (nat_abs (int_rem_euclid c (pos d)) * b)
  second_parts =
      ap (λ (t : ℤ). t *ℤ pos b) (euclid c d hd) ∙ scaled (int_div_euclid c (pos d)) d b (nat_abs (int_rem_euclid c (pos d)))
      ∙ ap (λ (k : ℕ). (pos k *ℤ int_div_euclid c (pos d)) +ℤ pos (nat_abs (int_rem_euclid c (pos d)) * b)) (mul_comm d b)

  first_rest : nat_abs (int_rem_euclid a (pos b)) * d < b * d
  first_rest = omega (arith, mul-le-mul_right d (rest_less a b hb), hd)

  second_rest : nat_abs (int_rem_euclid c (pos d)) * b < b * d
  second_rest = omega (arith, mul-le-mul_right b (rest_less c d hd), hb, mul_comm b d)

  -- by the whole parts where they differ
  pub by_wholes : int_div_euclid a (pos b) ≢ int_div_euclid c (pos d) → lt_z (int_div_euclid a (pos b)) (int_div_euclid c (pos d)) ≡ lt_z (a *ℤ pos d) (c *ℤ pos b)
  by_wholes differ =
      by_lt_z x y
      (λ l. sym (is_below x y l) ∙ step_below (pos (b * d) *ℤ x) (pos (b * d) *ℤ y) (b * d) u w (whole_step (b * d) x y l) first_rest ∙ sym (ap₂ lt_z first_parts second_parts))
      (λ g. let l = strictly x y differ g in
      sym (is_above x y l) ∙ step_above (pos (b * d) *ℤ x) (pos (b * d) *ℤ y) (b * d) u w (whole_step (b * d) y x l) second_rest ∙ sym (ap₂ lt_z first_parts second_parts))
    where
      x : ℤ
      x = int_div_euclid a (pos b)

      y : ℤ
      y = int_div_euclid c (pos d)

      u : ℕ
      u = nat_abs (int_rem_euclid a (pos b)) * d

      w : ℕ
      w = nat_abs (int_rem_euclid c (pos d)) * b

  -- by the rests where they are the same
  pub by_rests : int_div_euclid a (pos b) ≡ int_div_euclid c (pos d) → ltb (nat_abs (int_rem_euclid a (pos b)) * d) (nat_abs (int_rem_euclid c (pos d)) * b) ≡ lt_z (a *ℤ pos d) (c *ℤ pos b)
  by_rests same =
      same_step (pos (b * d) *ℤ int_div_euclid a (pos b)) (nat_abs (int_rem_euclid a (pos b)) * d) (nat_abs (int_rem_euclid c (pos d)) * b)
      ∙ sym (ap₂ lt_z first_parts (second_parts ∙ ap (λ (t : ℤ). (pos (b * d) *ℤ t) +ℤ pos (nat_abs (int_rem_euclid c (pos d)) * b)) (sym same)))
