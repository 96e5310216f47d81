-- Laws of finite sums.
use Rattle.std.proofs.Common.{◌≡◌, ℕ, zero, suc, ◌+◌, ◌-◌, ◌*◌, ◌%◌, ◌<◌, ◌≤◌, cond, ℤ, pos, ◌+ℤ◌, ◌*ℤ◌, neg_ℤ, sym, refl, ap, ◌∙◌, ap₂, add-zero, add-suc, mod-eq_of_lt, mul-zero, mul-suc, arith}
use native.Mathlib.Nat.{mul-add-mod_self_left}
use lib.IntN.{neg_ℤ-+ℤ, +ℤ_idl, +ℤ_idr, +ℤ_assoc, +ℤ_comm, *ℤ_comm, *ℤ-zero, zero-*ℤ}
use Rattle.std.proofs.lemmas.Bool.{le-leb, lt-leb}
use Rattle.algebra.specs.Sums.{sum}
use Rattle.algebra.specs.Weights.{ZeroBeyond, shifted}
use Rattle.algebra.proofs.Integers.{*ℤ_distl, +ℤ_exchange}

-- the clauses of the sum
pub sum_none : (f : ℕ → ℤ) → sum 0 f ≡ pos 0
unfolding sum
sum_none f = refl

pub sum_more : (n : ℕ) (f : ℕ → ℤ) → sum (suc n) f ≡ sum n f +ℤ f n
unfolding sum
sum_more n f = refl

-- equal terms give equal sums
pub sum_cong : (n : ℕ) (f g : ℕ → ℤ) → ((s : ℕ) → s < n → f s ≡ g s) → sum n f ≡ sum n g
sum_cong zero f g e = sum_none f ∙ sym (sum_none g)
sum_cong (suc n) f g e =
    sum_more n f ∙ ap₂ ◌+ℤ◌ (sum_cong n f g (λ s h. e s (omega arith))) (e n (omega arith)) ∙ sym (sum_more n g)

-- a sum of terms that are 0 is 0
pub sum_zero : (n : ℕ) (f : ℕ → ℤ) → ((s : ℕ) → s < n → f s ≡ pos 0) → sum n f ≡ pos 0
sum_zero zero f e = sum_none f
sum_zero (suc n) f e =
    sum_more n f ∙ ap₂ ◌+ℤ◌ (sum_zero n f (λ s h. e s (omega arith))) (e n (omega arith))

-- the sum of sums, term by term
pub sum_add : (n : ℕ) (f g : ℕ → ℤ) → sum n (λ s. f s +ℤ g s) ≡ sum n f +ℤ sum n g
sum_add zero f g = sum_none (λ s. f s +ℤ g s) ∙ sym (ap₂ ◌+ℤ◌ (sum_none f) (sum_none g))
sum_add (suc n) f g =
    sum_more n (λ s. f s +ℤ g s)
    ∙ ap (λ t. t +ℤ (f n +ℤ g n)) (sum_add n f g)
    ∙ +ℤ_exchange (sum n f) (sum n g) (f n) (g n)
    ∙ sym (ap₂ ◌+ℤ◌ (sum_more n f) (sum_more n g))

-- the sum of opposites
pub sum_neg : (n : ℕ) (f : ℕ → ℤ) → sum n (λ s. neg_ℤ (f s)) ≡ neg_ℤ (sum n f)
sum_neg zero f = sum_none (λ s. neg_ℤ (f s)) ∙ sym (ap neg_ℤ (sum_none f))
sum_neg (suc n) f =
    sum_more n (λ s. neg_ℤ (f s))
    ∙ ap (λ t. t +ℤ neg_ℤ (f n)) (sum_neg n f)
    ∙ sym (ap neg_ℤ (sum_more n f) ∙ neg_ℤ-+ℤ (sum n f) (f n))

-- a factor moves into a sum
pub sum_scale : (c : ℤ) (n : ℕ) (f : ℕ → ℤ) → c *ℤ sum n f ≡ sum n (λ s. c *ℤ f s)
sum_scale c zero f = ap (λ t. c *ℤ t) (sum_none f) ∙ *ℤ-zero c ∙ sym (sum_none (λ s. c *ℤ f s))
sum_scale c (suc n) f =
    ap (λ t. c *ℤ t) (sum_more n f)
    ∙ *ℤ_distl c (sum n f) (f n)
    ∙ ap (λ t. t +ℤ (c *ℤ f n)) (sum_scale c n f)
    ∙ sym (sum_more n (λ s. c *ℤ f s))

pub sum_scale_right : (c : ℤ) (n : ℕ) (f : ℕ → ℤ) → sum n f *ℤ c ≡ sum n (λ s. f s *ℤ c)
sum_scale_right c n f =
    *ℤ_comm (sum n f) c ∙ sum_scale c n f ∙ sum_cong n (λ s. c *ℤ f s) (λ s. f s *ℤ c) (λ s h. *ℤ_comm c (f s))

-- a sum in two parts
pub sum_split : (m n : ℕ) (f : ℕ → ℤ) → sum (m + n) f ≡ sum m f +ℤ sum n (λ s. f (m + s))
sum_split m zero f =
    ap (λ t. sum t f) (add-zero m) ∙ sym (ap (λ t. sum m f +ℤ t) (sum_none (λ s. f (m + s))) ∙ +ℤ_idr (sum m f))
sum_split m (suc n) f =
    ap (λ t. sum t f) (add-suc m n)
    ∙ sum_more (m + n) f
    ∙ ap (λ t. t +ℤ f (m + n)) (sum_split m n f)
    ∙ +ℤ_assoc (sum m f) (sum n (λ s. f (m + s))) (f (m + n))
    ∙ ap (λ t. sum m f +ℤ t) (sym (sum_more n (λ s. f (m + s))))

-- terms that are 0 from n up add nothing
pub sum_beyond : (n m : ℕ) (f : ℕ → ℤ) → ((s : ℕ) → n ≤ s → f s ≡ pos 0) → sum (n + m) f ≡ sum n f
sum_beyond n m f e =
    sum_split n m f
    ∙ ap (λ t. sum n f +ℤ t) (sum_zero m (λ s. f (n + s)) (λ s h. e (n + s) (omega arith)))
    ∙ +ℤ_idr (sum n f)

-- the first term apart
pub sum_first : (n : ℕ) (f : ℕ → ℤ) → sum (suc n) f ≡ f 0 +ℤ sum n (λ s. f (suc s))
sum_first zero f = sum_more 0 f ∙ ap (λ t. t +ℤ f 0) (sum_none f) ∙ +ℤ_idl (f 0) ∙ sym (ap (λ t. f 0 +ℤ t) (sum_none (λ s. f (suc s))) ∙ +ℤ_idr (f 0))
sum_first (suc n) f =
    sum_more (suc n) f
    ∙ ap (λ t. t +ℤ f (suc n)) (sum_first n f)
    ∙ +ℤ_assoc (f 0) (sum n (λ s. f (suc s))) (f (suc n))
    ∙ ap (λ t. f 0 +ℤ t) (sym (sum_more n (λ s. f (suc s))))

-- a sum backwards
pub sum_reverse : (L : ℕ) (f : ℕ → ℤ) → sum (suc L) f ≡ sum (suc L) (λ s. f (L - s))
sum_reverse zero f = sum_cong 1 f (λ s. f (0 - s)) (λ s h. ap f (omega arith))
sum_reverse (suc L) f =
    sum_more (suc L) f
    ∙ ap (λ t. t +ℤ f (suc L)) (sum_reverse L f)
    ∙ +ℤ_comm (sum (suc L) (λ s. f (L - s))) (f (suc L))
    ∙ ap₂ ◌+ℤ◌ (ap f (omega arith)) (sum_cong (suc L) (λ s. f (L - s)) (λ s. f (suc L - suc s)) (λ s h. ap f (omega arith)))
    ∙ sym (sum_first (suc L) (λ s. f (suc L - s)))

-- two sums exchanged
pub sum_swap : (m n : ℕ) (f : ℕ → ℕ → ℤ) → sum m (λ i. sum n (λ j. f i j)) ≡ sum n (λ j. sum m (λ i. f i j))
sum_swap zero n f = sum_none (λ i. sum n (λ j. f i j)) ∙ sym (sum_zero n (λ j. sum 0 (λ i. f i j)) (λ j h. sum_none (λ i. f i j)))
sum_swap (suc m) n f =
    sum_more m (λ i. sum n (λ j. f i j))
    ∙ ap (λ t. t +ℤ sum n (λ j. f m j)) (sum_swap m n f)
    ∙ sym (sum_add n (λ j. sum m (λ i. f i j)) (λ j. f m j))
    ∙ sum_cong n (λ j. sum m (λ i. f i j) +ℤ f m j) (λ j. sum (suc m) (λ i. f i j)) (λ j h. sym (sum_more m (λ i. f i j)))

-- a row that is 0 past L, moved up by a: the sum starts at a, and any end past a + L serves
pub sum_shifted : (a L N : ℕ) (W g : ℕ → ℤ) → ZeroBeyond L W → a + L < N → sum N (λ s. shifted W a s *ℤ g s) ≡ sum (suc L) (λ u. W u *ℤ g (a + u))
sum_shifted a L N W g z h =
    ap (λ t. sum t f) (omega arith)
    ∙ sum_beyond (a + suc L) (N - (a + suc L)) f past
    ∙ sum_split a (suc L) f
    ∙ ap₂ ◌+ℤ◌ (sum_zero a f before) (sum_cong (suc L) (λ u. f (a + u)) (λ u. W u *ℤ g (a + u)) inside)
    ∙ +ℤ_idl (sum (suc L) (λ u. W u *ℤ g (a + u)))
  where
    f : ℕ → ℤ
    f s = shifted W a s *ℤ g s

    before : (s : ℕ) → s < a → f s ≡ pos 0
    before s l = ap (λ b. cond b (W (s - a)) (pos 0) *ℤ g s) (lt-leb a s l) ∙ zero-*ℤ (g s)

    inside : (u : ℕ) → u < suc L → f (a + u) ≡ W u *ℤ g (a + u)
    inside u l = ap₂ (λ b s. cond b (W s) (pos 0) *ℤ g (a + u)) (le-leb a (a + u) (omega arith)) (omega arith)

    past : (s : ℕ) → a + suc L ≤ s → f s ≡ pos 0
    past s l = ap₂ (λ b t. cond b t (pos 0) *ℤ g s) (le-leb a s (omega arith)) (z (s - a) (omega arith)) ∙ zero-*ℤ (g s)

-- terms that are 0 except at the multiples of k
pub sum_multiples : (k L : ℕ) (f : ℕ → ℤ) → ((s : ℕ) → (s % suc k ≡ 0 → ⊥) → f s ≡ pos 0) → sum (suc (suc k * L)) f ≡ sum (suc L) (λ u. f (suc k * u))
sum_multiples k zero f e =
    ap (λ t. sum (suc t) f) (mul-zero (suc k))
    ∙ sum_cong 1 f (λ u. f (suc k * u)) (λ s h. ap f (start s h))
  where
    start : (s : ℕ) → s < 1 → s ≡ suc k * s
    start zero h = sym (mul-zero (suc k))
    start (suc s) h = absurd (omega arith)
sum_multiples k (suc L) f e =
    ap (λ t. sum t f) n
    ∙ sum_split (suc (suc k * L)) (suc k) f
    ∙ ap₂ ◌+ℤ◌ (sum_multiples k L f e) (sum_more k g ∙ ap (λ t. t +ℤ g k) (sum_zero k g (λ j h. e (suc (suc k * L) + j) (between j h))) ∙ +ℤ_idl (g k) ∙ ap f last)
    ∙ sym (sum_more (suc L) (λ u. f (suc k * u)))
  where
    g : ℕ → ℤ
    g j = f (suc (suc k * L) + j)

    n : suc (suc k * suc L) ≡ suc (suc k * L) + suc k
    n = omega (arith, mul-suc (suc k) L)

    last : suc (suc k * L) + k ≡ suc k * suc L
    last = omega (arith, mul-suc (suc k) L)

    between : (j : ℕ) → j < k → (suc (suc k * L) + j) % suc k ≡ 0 → ⊥
    between j h z =
        let a : suc (suc k * L) + j ≡ suc k * L + suc j = omega arith in
        let b : suc j % suc k ≡ suc j = mod-eq_of_lt (omega arith) in
        let c : suc j ≡ 0 = sym b ∙ sym (mul-add-mod_self_left (suc k) L (suc j)) ∙ ap (λ t. t % suc k) (sym a) ∙ z in
        omega arith
