-- What the layers keep: rows made from an exact row are exact.
use Rattle.std.proofs.Common.{◌≡◌, ℕ, zero, suc, ◌+◌, ◌-◌, ◌*◌, ◌/◌, ◌%◌, ◌^◌, ◌<◌, ◌≤◌, cond, [], ◌∷◌, ℤ, pos, negsuc, ◌+ℤ◌, ◌-ℤ◌, ◌*ℤ◌, neg_ℤ, sym, ap, ◌∙◌, subst, ap₂, inl, inr, add-zero, mul-le-mul_right, zero-lt-suc, suc-mul, mul-le-mul_left, zero-add, zero-mul, arith}
use native.Mathlib.Nat.{le-suc_iff, mul-sub, one-le-pow, pow-succ', two-pow-succ, mul-mod_right, mul-div_right}
use lib.IntN.{neg_ℤ-neg_ℤ, zero-*ℤ, *ℤ-zero, +ℤ_idr, +ℤ_invr}
use borrow.Author.Differences.{ints}
use Rattle.std.proofs.lemmas.Bool.{le-leb, eq-eqb, ne_eqb}
use Rattle.algebra.specs.Sums.{sum, ◌^ℤ◌}
use Rattle.algebra.specs.Weights.{Exact, ZeroBeyond, Mirrored, shifted, panel_weight, stretch_weight, mirror_weight, refine_weight, reduce_weight}
use Rattle.algebra.proofs.Integers.{*ℤ_idl, *ℤ_assoc, *ℤ_cancel}
use Rattle.algebra.proofs.Ring.{over, reads, read_num, identity}
use Rattle.algebra.proofs.Powers.{pow_zero, pow_suc}
use Rattle.algebra.proofs.Sums.{sum_none, sum_more, sum_cong, sum_add, sum_neg, sum_scale, sum_scale_right, sum_swap, sum_beyond, sum_reverse, sum_shifted, sum_multiples}
use Rattle.algebra.proofs.Affine.{moment, moment_error, affine}

-- an exact row has no error up to its degree
no_error : (L D d : ℕ) (W : ℕ → ℤ) → Exact L W D d → (k : ℕ) → k ≤ d → moment_error (suc L) W (pos D) (pos L) k ≡ pos 0
no_error L D d W e k h = ap (λ t. t -ℤ (pos D *ℤ (pos L ^ℤ suc k))) (e k h) ∙ +ℤ_invr (pos D *ℤ (pos L ^ℤ suc k))

-- powers of 0 and 1
pow_of_zero : (k : ℕ) → pos 0 ^ℤ suc k ≡ pos 0
pow_of_zero k = pow_suc (pos 0) k ∙ zero-*ℤ (pos 0 ^ℤ k)

pow_of_one : (k : ℕ) → pos 1 ^ℤ k ≡ pos 1
pow_of_one zero = pow_zero (pos 1)
pow_of_one (suc k) = pow_suc (pos 1) k ∙ ap (λ t. pos 1 *ℤ t) (pow_of_one k)

-- a row that begins at a
panel_moment : (L k a : ℕ) (W : ℕ → ℤ) (D : ℤ) → ((i : ℕ) → i < k → moment_error (suc L) W D (pos L) i ≡ pos 0) →
    pos (suc k) *ℤ sum (suc L) (λ u. W u *ℤ (pos (a + u) ^ℤ k))
    ≡ (D *ℤ ((pos (a + L) ^ℤ suc k) -ℤ (pos a ^ℤ suc k))) +ℤ moment_error (suc L) W D (pos L) k
panel_moment L k a W D e =
    ap (λ t. pos (suc k) *ℤ t) (sum_cong (suc L) (λ u. W u *ℤ (pos (a + u) ^ℤ k)) (λ u. W u *ℤ (((pos 1 *ℤ pos u) +ℤ pos a) ^ℤ k)) (λ u h. ap (λ t. W u *ℤ (pos t ^ℤ k)) (omega arith)))
    ∙ sym (*ℤ_idl (pos (suc k) *ℤ sum (suc L) (λ u. W u *ℤ (((pos 1 *ℤ pos u) +ℤ pos a) ^ℤ k))))
    ∙ affine (suc L) k W D (pos L) (pos a) (pos 1) e
    ∙ ap₂ (λ m o. (D *ℤ ((pos m ^ℤ suc k) -ℤ (pos a ^ℤ suc k))) +ℤ (o *ℤ moment_error (suc L) W D (pos L) k)) (omega arith) (pow_of_one (suc k))
    ∙ ap (λ t. (D *ℤ ((pos (a + L) ^ℤ suc k) -ℤ (pos a ^ℤ suc k))) +ℤ t) (*ℤ_idl (moment_error (suc L) W D (pos L) k))

-- m rows side by side
link : (x y z : ℤ) → (y -ℤ z) +ℤ (x -ℤ y) ≡ x -ℤ z
link x y z = omega (arith, ints)

telescope : (m : ℕ) (h : ℕ → ℤ) → sum m (λ j. h (suc j) -ℤ h j) ≡ h m -ℤ h 0
telescope zero h = sum_none (λ j. h (suc j) -ℤ h j) ∙ sym (+ℤ_invr (h 0))
telescope (suc m) h = sum_more m (λ j. h (suc j) -ℤ h j) ∙ ap (λ t. t +ℤ (h (suc m) -ℤ h m)) (telescope m h) ∙ link (h (suc m)) (h m) (h 0)

pub exact_panels : (m L D d : ℕ) (W : ℕ → ℤ) → ZeroBeyond L W → Exact L W D d → Exact (m * L) (panel_weight m L W) D d
exact_panels m L D d W z e k h =
    ap (λ t. pos (suc k) *ℤ t)
    (sum_cong (suc (m * L)) (λ s. panel_weight m L W s *ℤ (pos s ^ℤ k)) (λ s. sum m (λ j. shifted W (j * L) s *ℤ (pos s ^ℤ k)))
    (λ s l. sum_scale_right (pos s ^ℤ k) m (λ j. shifted W (j * L) s))
    ∙ sum_swap (suc (m * L)) m (λ s j. shifted W (j * L) s *ℤ (pos s ^ℤ k)))
    ∙ sum_scale (pos (suc k)) m (λ j. sum (suc (m * L)) (λ s. shifted W (j * L) s *ℤ (pos s ^ℤ k)))
    ∙ sum_cong m (λ j. pos (suc k) *ℤ sum (suc (m * L)) (λ s. shifted W (j * L) s *ℤ (pos s ^ℤ k))) (λ j. pos D *ℤ (p (suc j) -ℤ p j)) panel
    ∙ sym (sum_scale (pos D) m (λ j. p (suc j) -ℤ p j))
    ∙ ap (λ t. pos D *ℤ t) (telescope m p ∙ ap (λ t. p m -ℤ t) (ap (λ t. pos t ^ℤ suc k) (zero-mul L) ∙ pow_of_zero k) ∙ +ℤ_idr (p m))
  where
    p : ℕ → ℤ
    p j = pos (j * L) ^ℤ suc k

    panel : (j : ℕ) → j < m → pos (suc k) *ℤ sum (suc (m * L)) (λ s. shifted W (j * L) s *ℤ (pos s ^ℤ k)) ≡ pos D *ℤ (p (suc j) -ℤ p j)
    panel j l =
        ap (λ t. pos (suc k) *ℤ t) (sum_shifted (j * L) L (suc (m * L)) W (λ s. pos s ^ℤ k) z (omega (arith, suc-mul j L, mul-le-mul_right {m = suc j} {n = m} L l)))
        ∙ panel_moment L k (j * L) W (pos D) (λ i b. no_error L D d W e i (omega arith))
        ∙ ap₂ (λ t o. (pos D *ℤ ((pos t ^ℤ suc k) -ℤ p j)) +ℤ o) (sym (suc-mul j L)) (no_error L D d W e k h)
        ∙ +ℤ_idr (pos D *ℤ (p (suc j) -ℤ p j))

-- a row stretched by k + 1
front : (m c t : ℤ) → m *ℤ (c *ℤ t) ≡ c *ℤ (m *ℤ t)
front m c t = over (m ∷ c ∷ t ∷ []) (λ ρ p q r. simp (p, q, r, reads) (identity ρ _ _ (omega arith)))

stretch_moment : (L k i : ℕ) (W : ℕ → ℤ) (D : ℤ) → ((j : ℕ) → j < i → moment_error (suc L) W D (pos L) j ≡ pos 0) →
    pos (suc i) *ℤ sum (suc (suc k * L)) (λ s. stretch_weight (suc k) W s *ℤ (pos s ^ℤ i))
    ≡ (D *ℤ (pos (suc k * L) ^ℤ suc i)) +ℤ ((pos (suc k) ^ℤ suc i) *ℤ moment_error (suc L) W D (pos L) i)
stretch_moment L k i W D e =
    ap (λ t. pos (suc i) *ℤ t)
    (sum_multiples k L f apart
    ∙ sum_cong (suc L) (λ u. f (suc k * u)) (λ u. pos (suc k) *ℤ (W u *ℤ (((pos (suc k) *ℤ pos u) +ℤ pos 0) ^ℤ i))) (λ u h. at u)
    ∙ sym (sum_scale (pos (suc k)) (suc L) (λ u. W u *ℤ (((pos (suc k) *ℤ pos u) +ℤ pos 0) ^ℤ i))))
    ∙ front (pos (suc i)) (pos (suc k)) (sum (suc L) (λ u. W u *ℤ (((pos (suc k) *ℤ pos u) +ℤ pos 0) ^ℤ i)))
    ∙ affine (suc L) i W D (pos L) (pos 0) (pos (suc k)) e
    ∙ ap (λ t. (D *ℤ t) +ℤ ((pos (suc k) ^ℤ suc i) *ℤ moment_error (suc L) W D (pos L) i))
    (ap₂ (λ m o. (pos m ^ℤ suc i) -ℤ o) (zero-add (suc k * L)) (pow_of_zero i) ∙ +ℤ_idr (pos (suc k * L) ^ℤ suc i))
  where
    f : ℕ → ℤ
    f s = stretch_weight (suc k) W s *ℤ (pos s ^ℤ i)

    apart : (s : ℕ) → (s % suc k ≡ 0 → ⊥) → f s ≡ pos 0
    apart s n = ap (λ b. cond b (pos (suc k) *ℤ W (s / suc k)) (pos 0) *ℤ (pos s ^ℤ i)) (ne_eqb (s % suc k) 0 n) ∙ zero-*ℤ (pos s ^ℤ i)

    at : (u : ℕ) → f (suc k * u) ≡ pos (suc k) *ℤ (W u *ℤ (((pos (suc k) *ℤ pos u) +ℤ pos 0) ^ℤ i))
    at u =
        ap₂ (λ b t. cond b (pos (suc k) *ℤ W t) (pos 0) *ℤ (pos (suc k * u) ^ℤ i)) (eq-eqb (suc k * u % suc k) 0 (mul-mod_right (suc k) u)) (mul-div_right u (zero-lt-suc k))
        ∙ *ℤ_assoc (pos (suc k)) (W u) (pos (suc k * u) ^ℤ i)
        ∙ ap (λ t. pos (suc k) *ℤ (W u *ℤ (pos t ^ℤ i))) (sym (add-zero (suc k * u)))

pub exact_stretch : (k L D d : ℕ) (W : ℕ → ℤ) → 1 ≤ k → Exact L W D d → Exact (k * L) (stretch_weight k W) D d
exact_stretch zero L D d W h e i l = absurd (omega arith)
exact_stretch (suc k) L D d W h e i l =
    stretch_moment L k i W (pos D) (λ j b. no_error L D d W e j (omega arith))
    ∙ ap (λ t. (pos D *ℤ (pos (suc k * L) ^ℤ suc i)) +ℤ ((pos (suc k) ^ℤ suc i) *ℤ t)) (no_error L D d W e i l)
    ∙ ap (λ t. (pos D *ℤ (pos (suc k * L) ^ℤ suc i)) +ℤ t) (*ℤ-zero (pos (suc k) ^ℤ suc i))
    ∙ +ℤ_idr (pos D *ℤ (pos (suc k * L) ^ℤ suc i))

-- a row read backwards
minus_one : (x : ℤ) → negsuc 0 *ℤ x ≡ neg_ℤ x
minus_one x = omega (arith, ints)

backwards : (L s : ℕ) → s ≤ L → pos (L - s) ≡ (negsuc 0 *ℤ pos s) +ℤ pos L
backwards L s h = omega (arith, ints)

ends : (L : ℕ) → pos L +ℤ (negsuc 0 *ℤ pos L) ≡ pos 0
ends L = omega (arith, ints)

turned : (D l g : ℤ) → neg_ℤ ((D *ℤ (pos 0 -ℤ l)) +ℤ g) ≡ (D *ℤ l) -ℤ g
turned D l g = over (D ∷ l ∷ g ∷ []) (λ ρ p q r. simp (p, q, r, read_num ρ, reads) (identity ρ _ _ (omega arith)))

mirror_moment : (L k : ℕ) (W : ℕ → ℤ) (D : ℤ) → ((i : ℕ) → i < k → moment_error (suc L) W D (pos L) i ≡ pos 0) →
    pos (suc k) *ℤ sum (suc L) (λ s. W s *ℤ (pos (L - s) ^ℤ k))
    ≡ (D *ℤ (pos L ^ℤ suc k)) -ℤ ((negsuc 0 ^ℤ suc k) *ℤ moment_error (suc L) W D (pos L) k)
mirror_moment L k W D e =
    ap (λ t. pos (suc k) *ℤ t) (sum_cong (suc L) (λ s. W s *ℤ (pos (L - s) ^ℤ k)) f (λ s h. ap (λ t. W s *ℤ (t ^ℤ k)) (backwards L s (omega arith))))
    ∙ sym (neg_ℤ-neg_ℤ (pos (suc k) *ℤ sum (suc L) f))
    ∙ ap neg_ℤ
    (sym (minus_one (pos (suc k) *ℤ sum (suc L) f))
    ∙ affine (suc L) k W D (pos L) (pos L) (negsuc 0) e
    ∙ ap (λ t. (D *ℤ (t -ℤ (pos L ^ℤ suc k))) +ℤ ((negsuc 0 ^ℤ suc k) *ℤ moment_error (suc L) W D (pos L) k)) (ap (λ t. t ^ℤ suc k) (ends L) ∙ pow_of_zero k))
    ∙ turned D (pos L ^ℤ suc k) ((negsuc 0 ^ℤ suc k) *ℤ moment_error (suc L) W D (pos L) k)
  where
    f : ℕ → ℤ
    f s = W s *ℤ (((negsuc 0 *ℤ pos s) +ℤ pos L) ^ℤ k)

pub exact_mirror : (L D d : ℕ) (W : ℕ → ℤ) → Exact L W D d → Exact L (mirror_weight L W) D d
exact_mirror L D d W e k h =
    ap (λ t. pos (suc k) *ℤ t) (sum_reverse L f ∙ sum_cong (suc L) (λ s. f (L - s)) (λ s. W s *ℤ (pos (L - s) ^ℤ k)) back)
    ∙ mirror_moment L k W (pos D) (λ i b. no_error L D d W e i (omega arith))
    ∙ ap (λ t. (pos D *ℤ (pos L ^ℤ suc k)) -ℤ t) (ap (λ t. (negsuc 0 ^ℤ suc k) *ℤ t) (no_error L D d W e k h) ∙ *ℤ-zero (negsuc 0 ^ℤ suc k))
    ∙ +ℤ_idr (pos D *ℤ (pos L ^ℤ suc k))
  where
    f : ℕ → ℤ
    f s = mirror_weight L W s *ℤ (pos s ^ℤ k)

    back : (s : ℕ) → s < suc L → f (L - s) ≡ W s *ℤ (pos (L - s) ^ℤ k)
    back s l = ap₂ (λ b t. cond b (W t) (pos 0) *ℤ (pos (L - s) ^ℤ k)) (le-leb (L - s) L (omega arith)) (omega arith)

-- a mirrored row of even degree is exact one degree further
even_power : (n : ℕ) → n % 2 ≡ 0 → negsuc 0 ^ℤ n ≡ pos 1
even_power zero h = pow_zero (negsuc 0)
even_power (suc zero) h = absurd (omega arith)
even_power (suc (suc n)) h =
    pow_suc (negsuc 0) (suc n)
    ∙ ap (λ t. negsuc 0 *ℤ t) (pow_suc (negsuc 0) n ∙ ap (λ t. negsuc 0 *ℤ t) (even_power n (omega arith)))

halfway : (x l : ℤ) → x ≡ l -ℤ (pos 1 *ℤ (x -ℤ l)) → x ≡ l
halfway x l e = omega (arith, ints)

pub symmetric_gain : (L D d : ℕ) (W : ℕ → ℤ) → Mirrored L W → d % 2 ≡ 0 → Exact L W D d → Exact L W D (suc d)
symmetric_gain L D d W m o e k h = elim (le-suc_iff.0 h) [ inl l ↦ e k l | inr q ↦ subst P (sym q) next ]
  where
    P : ℕ → Type 0
    P i = pos (suc i) *ℤ sum (suc L) (λ s. W s *ℤ (pos s ^ℤ i)) ≡ pos D *ℤ (pos L ^ℤ suc i)

    f : ℕ → ℤ
    f s = W s *ℤ (pos s ^ℤ suc d)

    next : P (suc d)
    next = halfway (pos (suc (suc d)) *ℤ sum (suc L) f) (pos D *ℤ (pos L ^ℤ suc (suc d)))
        (ap (λ t. pos (suc (suc d)) *ℤ t) (sum_reverse L f ∙ sum_cong (suc L) (λ s. f (L - s)) (λ s. W s *ℤ (pos (L - s) ^ℤ suc d)) (λ s b. ap (λ t. t *ℤ (pos (L - s) ^ℤ suc d)) (sym (m s (omega arith)))))
        ∙ mirror_moment L (suc d) W (pos D) (λ i b. no_error L D d W e i (omega arith))
        ∙ ap (λ t. (pos D *ℤ (pos L ^ℤ suc (suc d))) -ℤ (t *ℤ moment_error (suc L) W (pos D) (pos L) (suc d))) (even_power (suc (suc d)) (omega arith)))

-- Richardson refinement: of the error of moment k, E(k)·(2F − 2ᵏ⁺¹) is left
spread : (F w v t p : ℤ) → ((F *ℤ (w +ℤ v)) -ℤ t) *ℤ p ≡ (F *ℤ (w *ℤ p)) +ℤ ((F *ℤ (v *ℤ p)) +ℤ neg_ℤ (t *ℤ p))
spread F w v t p = over (F ∷ w ∷ v ∷ t ∷ p ∷ []) (λ ρ a b c d e. simp (a, b, c, d, e, reads) (identity ρ _ _ (omega arith)))

collect : (m F a b c : ℤ) → m *ℤ ((F *ℤ a) +ℤ ((F *ℤ b) +ℤ neg_ℤ c)) ≡ (F *ℤ (m *ℤ a)) +ℤ ((F *ℤ (m *ℤ b)) +ℤ neg_ℤ (m *ℤ c))
collect m F a b c = over (m ∷ F ∷ a ∷ b ∷ c ∷ []) (λ ρ p q r s t. simp (p, q, r, s, t, reads) (identity ρ _ _ (omega arith)))

-- x is (k+1)·M(k), l and n are the powers of L and 2·L, b that of 2
richardson : (F D x l n b : ℤ) →
    (F *ℤ x) +ℤ ((F *ℤ ((D *ℤ (n -ℤ l)) +ℤ (x -ℤ (D *ℤ l)))) +ℤ neg_ℤ ((D *ℤ n) +ℤ (b *ℤ (x -ℤ (D *ℤ l)))))
    ≡ (((D *ℤ F) -ℤ D) *ℤ n) +ℤ ((x -ℤ (D *ℤ l)) *ℤ ((F +ℤ F) -ℤ b))
richardson F D x l n b = over (F ∷ D ∷ x ∷ l ∷ n ∷ b ∷ []) (λ ρ p q r s t u. simp (p, q, r, s, t, u, reads) (identity ρ _ _ (omega arith)))

refine_moment : (F L k : ℕ) (W : ℕ → ℤ) (D : ℤ) → ZeroBeyond L W → ((i : ℕ) → i < k → moment_error (suc L) W D (pos L) i ≡ pos 0) →
    pos (suc k) *ℤ sum (suc (2 * L)) (λ s. refine_weight F L W s *ℤ (pos s ^ℤ k))
    ≡ (((D *ℤ pos F) -ℤ D) *ℤ (pos (2 * L) ^ℤ suc k)) +ℤ (moment_error (suc L) W D (pos L) k *ℤ ((pos F +ℤ pos F) -ℤ (pos 2 ^ℤ suc k)))
refine_moment F L k W D z e =
    ap (λ t. pos (suc k) *ℤ t)
    (sum_cong N (λ s. refine_weight F L W s *ℤ p s) (λ s. (pos F *ℤ f s) +ℤ ((pos F *ℤ g s) +ℤ neg_ℤ (h s))) (λ s b. spread (pos F) (W s) (shifted W L s) (stretch_weight 2 W s) (p s))
    ∙ sum_add N (λ s. pos F *ℤ f s) (λ s. (pos F *ℤ g s) +ℤ neg_ℤ (h s))
    ∙ ap₂ ◌+ℤ◌ (sym (sum_scale (pos F) N f)) (sum_add N (λ s. pos F *ℤ g s) (λ s. neg_ℤ (h s)) ∙ ap₂ ◌+ℤ◌ (sym (sum_scale (pos F) N g)) (sum_neg N h)))
    ∙ collect (pos (suc k)) (pos F) (sum N f) (sum N g) (sum N h)
    ∙ ap₂ (λ a b. (pos F *ℤ (pos (suc k) *ℤ a)) +ℤ ((pos F *ℤ b) +ℤ neg_ℤ (pos (suc k) *ℤ sum N h))) first second
    ∙ ap (λ c. (pos F *ℤ x) +ℤ ((pos F *ℤ ((D *ℤ ((pos (2 * L) ^ℤ suc k) -ℤ (pos L ^ℤ suc k))) +ℤ moment_error (suc L) W D (pos L) k)) +ℤ neg_ℤ c)) (stretch_moment L 1 k W D e)
    ∙ richardson (pos F) D x (pos L ^ℤ suc k) (pos (2 * L) ^ℤ suc k) (pos 2 ^ℤ suc k)
  where
    N : ℕ
    N = suc (2 * L)

    p : ℕ → ℤ
    p s = pos s ^ℤ k

    f : ℕ → ℤ
    f s = W s *ℤ p s

    g : ℕ → ℤ
    g s = shifted W L s *ℤ p s

    h : ℕ → ℤ
    h s = stretch_weight 2 W s *ℤ p s

    x : ℤ
    x = pos (suc k) *ℤ moment (suc L) W k

    first : sum N f ≡ sum (suc L) f
    first = ap (λ t. sum t f) (omega arith) ∙ sum_beyond (suc L) L f (λ s b. ap (λ t. t *ℤ p s) (z s b) ∙ zero-*ℤ (p s))

    second : pos (suc k) *ℤ sum N g ≡ (D *ℤ ((pos (2 * L) ^ℤ suc k) -ℤ (pos L ^ℤ suc k))) +ℤ moment_error (suc L) W D (pos L) k
    second =
        ap (λ t. pos (suc k) *ℤ t) (sum_shifted L L N W p z (omega arith))
        ∙ panel_moment L k L W D e
        ∙ ap (λ t. (D *ℤ ((pos t ^ℤ suc k) -ℤ (pos L ^ℤ suc k))) +ℤ moment_error (suc L) W D (pos L) k) (omega arith)

pow_of_two : (n : ℕ) → pos 2 ^ℤ n ≡ pos (2 ^ n)
pow_of_two zero = pow_zero (pos 2)
pow_of_two (suc n) = pow_suc (pos 2) n ∙ ap (λ t. pos 2 *ℤ t) (pow_of_two n) ∙ ap pos (sym (pow-succ' 2 n))

refined_denominator : (D F : ℕ) → 1 ≤ F → (pos D *ℤ pos F) -ℤ pos D ≡ pos (D * (F - 1))
refined_denominator D F h = omega (arith, ints, mul-sub D F 1, mul-le-mul_left D h)

pub exact_refined : (F L D d : ℕ) (W : ℕ → ℤ) → ZeroBeyond L W → F ≡ 2 ^ suc d → Exact L W D d → Exact (2 * L) (refine_weight F L W) (D * (F - 1)) (suc d)
exact_refined F L D d W z p e k h =
    refine_moment F L k W (pos D) z (λ i b. no_error L D d W e i (omega arith))
    ∙ ap₂ (λ c t. (c *ℤ (pos (2 * L) ^ℤ suc k)) +ℤ t) (refined_denominator D F (omega (arith, one-le-pow (suc d) 2 (omega arith)))) (elim (le-suc_iff.0 h) [ inl l ↦ below l | inr q ↦ at q ])
    ∙ +ℤ_idr (pos (D * (F - 1)) *ℤ (pos (2 * L) ^ℤ suc k))
  where
    error : ℤ
    error = moment_error (suc L) W (pos D) (pos L) k

    below : k ≤ d → error *ℤ ((pos F +ℤ pos F) -ℤ (pos 2 ^ℤ suc k)) ≡ pos 0
    below l = ap (λ t. t *ℤ ((pos F +ℤ pos F) -ℤ (pos 2 ^ℤ suc k))) (no_error L D d W e k l) ∙ zero-*ℤ ((pos F +ℤ pos F) -ℤ (pos 2 ^ℤ suc k))

    at : k ≡ suc d → error *ℤ ((pos F +ℤ pos F) -ℤ (pos 2 ^ℤ suc k)) ≡ pos 0
    at q =
        ap (λ t. error *ℤ ((pos F +ℤ pos F) -ℤ t)) (pow_of_two (suc k) ∙ ap (λ t. pos (2 ^ suc t)) q ∙ ap pos (two-pow-succ (suc d) ∙ ap (λ t. t + t) (sym p)))
        ∙ ap (λ t. error *ℤ t) (+ℤ_invr (pos F +ℤ pos F))
        ∙ *ℤ-zero error

-- over a mirrored row of odd degree refinement gains two degrees
pub exact_refined_twice : (F L D d : ℕ) (W : ℕ → ℤ) → ZeroBeyond L W → Mirrored (2 * L) (refine_weight F L W) → d % 2 ≡ 1 → F ≡ 2 ^ suc d → Exact L W D d → Exact (2 * L) (refine_weight F L W) (D * (F - 1)) (suc (suc d))
exact_refined_twice F L D d W z m o p e = symmetric_gain (2 * L) (D * (F - 1)) (suc d) (refine_weight F L W) m (omega arith) (exact_refined F L D d W z p e)

-- a common divisor taken out
pub exact_reduced : (g L D d : ℕ) (W : ℕ → ℤ) → 1 ≤ g → ((s : ℕ) → W s ≡ pos g *ℤ reduce_weight g W s) → D ≡ g * (D / g) → Exact L W D d → Exact L (reduce_weight g W) (D / g) d
exact_reduced zero L D d W h w q e k l = absurd (omega arith)
exact_reduced (suc g) L D d W h w q e k l =
    *ℤ_cancel g (pos (suc k) *ℤ sum (suc L) f) (pos (D / suc g) *ℤ (pos L ^ℤ suc k))
    (front (pos (suc g)) (pos (suc k)) (sum (suc L) f)
    ∙ ap (λ t. pos (suc k) *ℤ t) (sum_scale (pos (suc g)) (suc L) f ∙ sum_cong (suc L) (λ s. pos (suc g) *ℤ f s) (λ s. W s *ℤ (pos s ^ℤ k)) each)
    ∙ e k l
    ∙ ap (λ t. pos t *ℤ (pos L ^ℤ suc k)) q
    ∙ *ℤ_assoc (pos (suc g)) (pos (D / suc g)) (pos L ^ℤ suc k))
  where
    f : ℕ → ℤ
    f s = reduce_weight (suc g) W s *ℤ (pos s ^ℤ k)

    each : (s : ℕ) → s < suc L → pos (suc g) *ℤ f s ≡ W s *ℤ (pos s ^ℤ k)
    each s b = sym (*ℤ_assoc (pos (suc g)) (reduce_weight (suc g) W s) (pos s ^ℤ k)) ∙ ap (λ t. t *ℤ (pos s ^ℤ k)) (sym (w s))
