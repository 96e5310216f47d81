-- A float is a whole number within the range exactly where cutting its fraction off stays in the range and gives the same number back.
use Rattle.std.proofs.Common.{◌≡◌, ℕ, zero, suc, ◌+◌, ◌-◌, ◌*◌, ◌/◌, ◌%◌, ◌^◌, ◌<◌, ◌≤◌, min, Bool, true, false, cond, ◌&&◌, ◌||◌, eqb, leb, ◌⊎◌, ℤ, pos, negsuc, neg_ℤ, nat_abs, Some, None, Option, sym, refl, ap, ◌∙◌, subst, inl, inr, add-mul, mul-pos, div-add-mod', zero-mul, mul-one, mul_right_comm, arith, pow_pos, eq-eqb, ne_eqb, le-leb, leb-false, leb-true}
use mathlib.Core.Bool.{beq}
use lib.Ieee.{Float, nan, inf, fin, binary32, up, down, round, of_int, to_signed, eq}
use lib.Ieee.Exact.{HasValue, round_exact}
use borrow.Author.Tests.{lt-leb}
use Rattle.std.proofs.lemmas.Bool.{and_right, or_right}
use Rattle.std.proofs.Math.Bool.{and-true}
use Rattle.std.specs.Bool.{then_some}
use Rattle.sources.proofs.Horner.{then_some_is}
use Rattle.sources.specs.Readings.{is_in_range}
use Rattle.channels.specs.Floats.{with_sign, whole_reading}

down_pos : (e : ℤ) → 0 < down e
down_pos (pos k) = omega arith
down_pos (negsuc k) = pow_pos (suc k)

-- a whole number in the range is a float exactly
few_exact : (s : Bool) (q : ℕ) → q ≤ 1048576 → HasValue (round binary32 s q 1) s q 1
few_exact s q h = round_exact binary32 s q 1 q 149 (omega arith) (omega arith) (omega arith) (sym (mul-one (q * 2 ^ 149)))

-- b / d is equal to its whole part exactly where nothing is left over; the fraction a / d' is that whole part
same_size : (a b d d' : ℕ) → 0 < d → 0 < d' → a ≡ b / d * d' → eqb (a * d) (b * d') ≡ eqb (b % d) 0
same_size a b d d' h h' e = go (b % d) refl
  where
    sum : b * d' ≡ a * d + b % d * d'
    sum =
        sym (ap (λ (x : ℕ). x * d') (div-add-mod' b d))
        ∙ add-mul (b / d * d) (b % d) d'
        ∙ ap (λ (x : ℕ). x + b % d * d') (mul_right_comm (b / d) d d' ∙ ap (λ (x : ℕ). x * d) (sym e))

    go : (r : ℕ) → r ≡ b % d → eqb (a * d) (b * d') ≡ eqb (b % d) 0
    go zero z =
        let none : b % d * d' ≡ 0 = ap (λ (x : ℕ). x * d') (sym z) ∙ zero-mul d' in
        eq-eqb (a * d) (b * d') (omega (arith, sum)) ∙ sym (eq-eqb (b % d) 0 (sym z))
    go (suc r) z =
        let above : 0 < b % d = omega arith in
        let some : 0 < b % d * d' = mul-pos above h' in
        ne_eqb (a * d) (b * d') (λ q. omega (arith, sum)) ∙ sym (ne_eqb (b % d) 0 (λ q. omega arith))

same_sign : (a : Bool) (c : Bool) → (beq a a || c) ≡ true
same_sign true c = refl
same_sign false c = refl

-- a float of the size q compared with one whose whole part is q
equals : (y : Float) (t s : Bool) (m : ℕ) (e : ℤ) (q : ℕ) → q ≡ m * up e / down e → HasValue y t q 1 → (t ≡ s) ⊎ (q ≡ 0)
    → eq y (fin s m e) ≡ eqb (m * up e % down e) 0
unfolding eq
equals nan t s m e q is v agree = absurd v
equals (inf u) t s m e q is v agree = absurd v
equals (fin u n d) t s m e q is v agree =
    let level : n * up d ≡ q * down d = sym (mul-one (n * up d)) ∙ v.1 in
    let sign : (beq u s || eqb (n * up d * down e) 0) ≡ true =
    elim agree [
      | inl f ↦ subst (λ (b : Bool). (beq u b || eqb (n * up d * down e) 0) ≡ true) (v.0 ∙ f) (same_sign u (eqb (n * up d * down e) 0))
      | inr z ↦
          or_right (beq u s) (eqb (n * up d * down e) 0)
          (eq-eqb (n * up d * down e) 0
          (ap (λ (x : ℕ). x * down e) (level ∙ ap (λ (x : ℕ). x * down d) z ∙ zero-mul (down d)) ∙ zero-mul (down e)))
    ]
    in
    ap (λ (b : Bool). eqb (n * up d * down e) (m * up e * down d) && b) sign
    ∙ and-true (eqb (n * up d * down e) (m * up e * down d))
    ∙ same_size (n * up d) (m * up e) (down e) (down d) (down_pos e) (down_pos d) (level ∙ ap (λ (x : ℕ). x * down d) is)

-- the float of a whole number in the range has its size, and its sign unless it is 0
exact : (s : Bool) (q : ℕ) → q ≤ 1048576 → (t : Bool) × HasValue (of_int binary32 (with_sign s q)) t q 1 × ((t ≡ s) ⊎ (q ≡ 0))
unfolding of_int
exact false q h = (false, few_exact false q h, inl refl)
exact true zero h = (false, few_exact false 0 h, inr refl)
exact true (suc q) h = (true, few_exact true (suc q) h, inl refl)

-- the size q cut to an integer's range
abbrev capped : Bool → ℕ → ℤ
capped s q = cond s (neg_ℤ (pos (min q (2 ^ 63)))) (pos (min q (2 ^ 63 - 1)))

capped_few : (s : Bool) (q : ℕ) → q ≤ 1048576 → capped s q ≡ with_sign s q
capped_few true q h = ap (λ (n : ℕ). neg_ℤ (pos n)) (omega arith)
capped_few false q h = ap pos (omega arith)

size_minus : (n : ℕ) → nat_abs (neg_ℤ (pos n)) ≡ n
size_minus zero = refl
size_minus (suc n) = refl

capped_many : (s : Bool) (q : ℕ) → 1048576 < q → is_in_range (capped s q) ≡ false
capped_many true q h = lt-leb _ _ (let is : nat_abs (capped true q) ≡ min q (2 ^ 63) = size_minus (min q (2 ^ 63)) in omega (arith, is))
capped_many false q h = lt-leb _ _ (omega arith)

in_range_few : (s : Bool) (q : ℕ) → q ≤ 1048576 → is_in_range (with_sign s q) ≡ true
in_range_few true q h = le-leb _ _ (let is : nat_abs (with_sign true q) ≡ q = size_minus q in omega (arith, is))
in_range_few false q h = le-leb _ _ h

both_tests : (a b c d : Bool) → b ≡ true → c ≡ true → d ≡ a → (a && b) ≡ (c && d)
both_tests a b c d p q r = ap (λ (x : Bool). a && x) p ∙ and-true a ∙ sym r ∙ ap (λ (x : Bool). x && d) (sym q)

-- the test on the cut number w of the float x
abbrev tested : ℤ → Float → Option ℤ
tested w x = cond (is_in_range w && eq (of_int binary32 w) x) (Some w) None

finite : (s : Bool) (m : ℕ) (e : ℤ) (b : Bool) → leb (m * up e / down e) 1048576 ≡ b → whole_reading (fin s m e) ≡ tested (capped s (m * up e / down e)) (fin s m e)
finite s m e true h =
    let q = m * up e / down e in
    let few : q ≤ 1048576 = leb-true q 1048576 h in
    let float = exact s q few in
    subst (λ (w : ℤ). whole_reading (fin s m e) ≡ tested w (fin s m e)) (sym (capped_few s q few))
    (ap (λ (b : Bool). cond b (Some (with_sign s q)) None)
    (both_tests _ _ _ _ h (in_range_few s q few) (equals (of_int binary32 (with_sign s q)) float.0 s m e q refl float.1 float.2)))
finite s m e false h =
    let q = m * up e / down e in
    ap (λ (b : Bool). cond b (Some (with_sign s q)) None) (and_right (eqb (m * up e % down e) 0) _ h)
    ∙ sym (ap (λ (b : Bool). cond (b && eq (of_int binary32 (capped s q)) (fin s m e)) (Some (capped s q)) None) (capped_many s q (leb-false q 1048576 h)))

never_nan : (y : Float) → eq y nan ≡ false
unfolding eq
never_nan nan = refl
never_nan (inf s) = refl
never_nan (fin s m e) = refl

pub whole_tested : (x : Float) → whole_reading x ≡ tested (to_signed 63 x) x
unfolding to_signed
whole_tested nan = sym (ap (λ (b : Bool). cond b (Some (pos 0)) None) (never_nan (of_int binary32 (pos 0))))
whole_tested (inf true) = refl
whole_tested (inf false) = refl
whole_tested (fin s m e) = finite s m e (leb (m * up e / down e) 1048576) refl

-- the tests as the code makes them, on the cut number v
pub tells_whole : (x : Float) (v : ℤ) (b : Bool) → v ≡ to_signed 63 x → b ≡ (is_in_range v && eq (of_int binary32 v) x) → then_some b v ≡ whole_reading x
tells_whole x v b cut test =
    then_some_is b v ∙ ap (λ (t : Bool). cond t (Some v) None) test ∙ ap (λ (w : ℤ). tested w x) cut ∙ sym (whole_tested x)
