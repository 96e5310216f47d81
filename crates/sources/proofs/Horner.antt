-- Horner's scheme: its steps are the values of the polynomial's upper parts, and how large they become.
use Rattle.std.proofs.Common.{◌≡◌, ℕ, zero, suc, ◌+◌, ◌-◌, ◌*◌, ◌<◌, ◌≤◌, Bool, true, false, ◌&&◌, cond, ltb, leb, ℤ, pos, negsuc, ◌+ℤ◌, ◌*ℤ◌, List, [], ◌∷◌, ◌++◌, length, length-append, add-one, nat_abs, Some, None, sym, refl, ap, ◌∙◌, subst, ⊎_elim, mul-le-mul_left, arith}
use mathlib.Core.Path.{fun_ext}
use lib.IntN.{*ℤ_comm}
use borrow.Author.Differences.{ints}
use Rattle.std.specs.Bool.{then_some}
use Rattle.std.proofs.lemmas.Bool.{both_ways, and_cases, and_parts, and_right, lt-ltb, ltb-true, ltb-false, lt-leb, le-leb, cond-false}
use Rattle.std.proofs.Math.Seq.{get_or-append_seam}
use Rattle.std.proofs.Math.ListN.{get_or-append}
use Rattle.algebra.specs.Sums.{sum, ◌^ℤ◌}
use Rattle.algebra.proofs.Integers.{*ℤ_assoc}
use Rattle.algebra.proofs.Sums.{sum_first, sum_scale}
use Rattle.sources.specs.Polynomials.{polynomial_value, polynomial_at}
use Rattle.sources.specs.Readings.{is_in_range}
use Rattle.sources.specs.Searches.{value_of}

mul_swap : (a x y : ℤ) → a *ℤ (x *ℤ y) ≡ x *ℤ (a *ℤ y)
mul_swap a x y = sym (*ℤ_assoc a x y) ∙ ap (λ (t : ℤ). t *ℤ y) (*ℤ_comm a x) ∙ *ℤ_assoc x a y

-- the value after j steps, the last of them at the power k
abbrev pub horner : (ℕ → ℤ) → ℤ → ℕ → ℕ → ℤ
horner a x k zero = pos 0
horner a x k (suc j) = (horner a x (suc k) j *ℤ x) +ℤ a k

horner_sum : (a : ℕ → ℤ) (x : ℤ) (j k : ℕ) → horner a x k j ≡ sum j (λ i. a (k + i) *ℤ (x ^ℤ i))
unfolding sum ◌^ℤ◌
horner_sum a x zero k = refl
horner_sum a x (suc j) k =
    omega (
      arith,
      ints,
      ap (λ (t : ℤ). (t *ℤ x) +ℤ a k) (horner_sum a x j (suc k)),
      *ℤ_comm (sum j (λ i. a (suc k + i) *ℤ (x ^ℤ i))) x,
      sum_scale x j (λ i. a (suc k + i) *ℤ (x ^ℤ i)),
      ap (sum j) terms,
      sum_first j (λ i. a (k + i) *ℤ (x ^ℤ i)),
      low,
    )
  where
    back : (i : ℕ) → suc k + i ≡ k + suc i
    back i = omega arith

    terms : ◌≡◌ {A = ℕ → ℤ} (λ i. x *ℤ (a (suc k + i) *ℤ (x ^ℤ i))) (λ i. a (k + suc i) *ℤ (x *ℤ (x ^ℤ i)))
    terms = fun_ext (λ i. mul_swap x (a (suc k + i)) (x ^ℤ i) ∙ ap (λ (t : ℕ). a t *ℤ (x *ℤ (x ^ℤ i))) (back i))

    low : a (k + 0) *ℤ pos 1 ≡ a k
    low = let z : k + 0 ≡ k = omega arith in omega (arith, ints, ap a z)

-- each coefficient is at most 1,048,576 in size
abbrev pub Bounded : (ℕ → ℤ) → Type 0
Bounded a = (i : ℕ) → nat_abs (a i) ≤ 1048576

-- at a station above 1 a step from beyond 2,097,152 ends beyond it
escape_step : (s : ℕ) (h a : ℤ) → 2 ≤ s → nat_abs a ≤ 1048576 → 2097152 < nat_abs h → 2097152 < nat_abs ((h *ℤ pos s) +ℤ a)
escape_step s (pos n) a two small large = omega (arith, ints, mul-le-mul_left n two)
escape_step s (negsuc n) a two small large = omega (arith, ints, mul-le-mul_left (suc n) two)

escapes : (a : ℕ → ℤ) (s : ℕ) → 2 ≤ s → Bounded a → (k j : ℕ) → 2097152 < nat_abs (horner a (pos s) k j) → 2097152 < nat_abs (horner a (pos s) 0 (k + j))
escapes a s two small zero j large = let z : j ≡ 0 + j = omega arith in subst (λ (t : ℕ). 2097152 < nat_abs (horner a (pos s) 0 t)) z large
escapes a s two small (suc k) j large =
    let z : k + suc j ≡ suc k + j = omega arith in
    subst (λ (t : ℕ). 2097152 < nat_abs (horner a (pos s) 0 t)) z
    (escapes a s two small k (suc j) (escape_step s (horner a (pos s) (suc k) j) (a k) two (small k) large))

-- the value of Horner's scheme once the powers from k on are done
pub record Steady (a : ℕ → ℤ) (s k : ℕ) (v : ℤ) : Type 0 where
  pub is : v ≡ horner a (pos s) k (12 - k)
  pub above_one : 2 ≤ s → nat_abs v ≤ 2097152
  pub at_most_one : s ≤ 1 → nat_abs v ≤ (12 - k) * 1048576

next_is : (a : ℕ → ℤ) (s k : ℕ) (v : ℤ) → k < 12 → v ≡ horner a (pos s) (suc k) (12 - suc k) → (v *ℤ pos s) +ℤ a k ≡ horner a (pos s) k (12 - k)
next_is a s k v most e =
    let more : suc (12 - suc k) ≡ 12 - k = omega arith in
    ap (λ (t : ℤ). (t *ℤ pos s) +ℤ a k) e ∙ ap (λ (t : ℕ). horner a (pos s) k t) more

small_step : (s : ℕ) (h a : ℤ) → s ≤ 1 → nat_abs ((h *ℤ pos s) +ℤ a) ≤ nat_abs h + nat_abs a
small_step s (pos n) a one = omega (arith, ints, mul-le-mul_left n one)
small_step s (negsuc n) a one = omega (arith, ints, mul-le-mul_left (suc n) one)

-- whether the scheme may be broken off after the value w
abbrev pub breaks_off : ℕ → ℤ → Bool
breaks_off s w = ltb 1 s && ltb 2097152 (nat_abs w)

pub steady_more : (a : ℕ → ℤ) (s k : ℕ) (v w : ℤ) → Bounded a → Steady a s (suc k) v → k < 12 → w ≡ (v *ℤ pos s) +ℤ a k → breaks_off s w ≡ false → Steady a s k w
steady_more a s k v w small st most e stays = record {
  is = e ∙ next_is a s k v most st.is;
  above_one = λ two. ⊎_elim (λ f. absurd (both_ways (ltb 1 s) f (lt-ltb 1 s two))) (λ f. ltb-false 2097152 (nat_abs w) f) (and_cases (ltb 1 s) (ltb 2097152 (nat_abs w)) stays);
  at_most_one = λ one.
      let before = st.at_most_one one in
      let step = small_step s v (a k) one in
      let b = small k in
      omega (arith, ap nat_abs e);
}

polynomial_is : (a : ℕ → ℤ) (s : ℕ) → horner a (pos s) 0 12 ≡ polynomial_value a s
polynomial_is a s =
    horner_sum a (pos s) 12 0 ∙ ap (sum 12) (fun_ext (λ i. let z : 0 + i ≡ i = omega arith in ap (λ (t : ℕ). a t *ℤ (pos s ^ℤ i)) z))

pub steady_left : (a : ℕ → ℤ) (s k : ℕ) (v w : ℤ) → Bounded a → Steady a s (suc k) v → k < 12 → w ≡ (v *ℤ pos s) +ℤ a k → breaks_off s w ≡ true → is_in_range (polynomial_value a s) ≡ false
steady_left a s k v w small st most e leaves =
    let p = and_parts (ltb 1 s) (ltb 2097152 (nat_abs w)) leaves in
    let large : 2097152 < nat_abs (horner a (pos s) k (12 - k)) = subst (λ (t : ℤ). 2097152 < nat_abs t) (e ∙ next_is a s k v most st.is) (ltb-true 2097152 (nat_abs w) p.1) in
    let all : k + (12 - k) ≡ 12 = omega arith in
    let end = subst (λ (t : ℕ). 2097152 < nat_abs (horner a (pos s) 0 t)) all (escapes a s (ltb-true 1 s p.0) small k (12 - k) large) in
    lt-leb (nat_abs (polynomial_value a s)) 1048576 (omega (arith, end, ap nat_abs (polynomial_is a s)))

-- ---- the loop over the coefficients, the last ones first
-- the coefficients that are left are the lowest ones, and v is the value above them
pub record Going (a : ℕ → ℤ) (s : ℕ) (left : List ℤ) (v : ℤ) : Type 0 where
  pub lowest : (i : ℕ) → i < length left → value_of left i ≡ a i
  pub most : length left ≤ 12
  pub steady : Steady a s (length left) v

module _ (a : ℕ → ℤ) (s : ℕ) (left rest : List ℤ) (v w x : ℤ) (small : Bounded a) (going : Going a s left v) (is : left ≡ rest ++ (x ∷ [])) (e : w ≡ (v *ℤ pos s) +ℤ x) where
  longer : length left ≡ suc (length rest)
  longer = ap length is ∙ simp (length-append, add-one)

  taken : x ≡ a (length rest)
  taken = sym (get_or-append_seam rest x [] (pos 0)) ∙ ap (λ (l : List ℤ). value_of l (length rest)) (sym is) ∙ going.lowest (length rest) (omega (arith, longer))

  before : Steady a s (suc (length rest)) v
  before = rw longer at going.steady

  pub going_more : breaks_off s w ≡ false → Going a s rest w
  going_more stays = record {
    lowest = λ i h. sym (get_or-append rest (x ∷ []) (pos 0) i h) ∙ ap (λ (l : List ℤ). value_of l i) (sym is) ∙ going.lowest i (omega (arith, longer));
    most = let m = going.most in omega (arith, longer);
    steady = let m = going.most in steady_more a s (length rest) v w small before (omega (arith, longer)) (e ∙ ap (λ (t : ℤ). (v *ℤ pos s) +ℤ t) taken) stays;
  }

  -- the scheme may be broken off
  pub going_left : breaks_off s w ≡ true → is_in_range (polynomial_value a s) ≡ false
  going_left leaves =
      let m = going.most in
      steady_left a s (length rest) v w small before (omega (arith, longer)) (e ∙ ap (λ (t : ℤ). (v *ℤ pos s) +ℤ t) taken) leaves

-- no coefficient left
pub going_all : (a : ℕ → ℤ) (s : ℕ) (left : List ℤ) (v : ℤ) → Going a s left v → length left ≡ 0 → v ≡ polynomial_value a s
going_all a s left v going none = (rw none at going.steady).is ∙ polynomial_is a s

-- ---- the reading at a station
pub read_none : (a : ℕ → ℤ) (s : ℕ) → is_in_range (polynomial_value a s) ≡ false → polynomial_at a s ≡ None
read_none a s e = cond-false (leb s 1024 && is_in_range (polynomial_value a s)) (Some (polynomial_value a s)) None (and_right (leb s 1024) (is_in_range (polynomial_value a s)) e)

pub then_some_is : (b : Bool) (v : ℤ) → then_some b v ≡ cond b (Some v) None
then_some_is true v = refl
then_some_is false v = refl

pub read_is : (a : ℕ → ℤ) (s : ℕ) (v : ℤ) → s ≤ 1024 → v ≡ polynomial_value a s → then_some (is_in_range v) v ≡ polynomial_at a s
read_is a s v h e = then_some_is (is_in_range v) v ∙ rw (e, le-leb s 1024 h) refl
