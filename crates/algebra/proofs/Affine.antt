-- The weighted sum of the powers of c·s + a, from the moments of the weights.
use Rattle.std.proofs.Common.{◌≡◌, ℕ, suc, ◌-◌, ◌<◌, [], ◌∷◌, ℤ, pos, ◌+ℤ◌, ◌-ℤ◌, ◌*ℤ◌, sym, ap, ◌∙◌, ap₂, arith}
use native.Mathlib.Nat.{suc-sub-suc, sub-zero, sub_self}
use lib.IntN.{*ℤ-zero, +ℤ_idl, +ℤ_comm}
use borrow.Author.Differences.{ints}
use Rattle.algebra.specs.Sums.{sum, ◌^ℤ◌}
use Rattle.algebra.proofs.Integers.{*ℤ_idl}
use Rattle.algebra.proofs.Ring.{over, reads, identity}
use Rattle.algebra.proofs.Powers.{pow_zero, pow_suc, pow_product}
use Rattle.algebra.proofs.Binomial.{choose, choose_all, absorption, binomial_term, binomial}
use Rattle.algebra.proofs.Sums.{sum_more, sum_cong, sum_add, sum_scale, sum_first, sum_zero, sum_swap}

-- M(i) = Σ W(s)·sⁱ, and its error E(i) = (i+1)·M(i) − D·Lⁱ⁺¹
abbrev pub moment : ℕ → (ℕ → ℤ) → ℕ → ℤ
moment n W i = sum n (λ s. W s *ℤ (pos s ^ℤ i))

abbrev pub moment_error : ℕ → (ℕ → ℤ) → ℤ → ℤ → ℕ → ℤ
moment_error n W D L i = (pos (suc i) *ℤ moment n W i) -ℤ (D *ℤ (L ^ℤ suc i))

regroup : (w b u v a : ℤ) → w *ℤ (b *ℤ ((u *ℤ v) *ℤ a)) ≡ (b *ℤ (u *ℤ a)) *ℤ (w *ℤ v)
regroup w b u v a = over (w ∷ b ∷ u ∷ v ∷ a ∷ []) (λ ρ p q r s t. simp (p, q, r, s, t, reads) (identity ρ _ _ (omega arith)))

-- Σ W(s)·(c·s + a)ᵏ = Σ C(k,i)·cⁱ·aᵏ⁻ⁱ·M(i)
expansion : (n k : ℕ) (W : ℕ → ℤ) (a c : ℤ) →
    sum n (λ s. W s *ℤ (((c *ℤ pos s) +ℤ a) ^ℤ k)) ≡ sum (suc k) (λ i. binomial_term c a k i *ℤ moment n W i)
expansion n k W a c =
    sum_cong n (λ s. W s *ℤ (((c *ℤ pos s) +ℤ a) ^ℤ k)) (λ s. sum (suc k) (λ i. f s i)) opened
    ∙ sum_swap n (suc k) f
    ∙ sum_cong (suc k) (λ i. sum n (λ s. f s i)) (λ i. binomial_term c a k i *ℤ moment n W i) closed
  where
    f : ℕ → ℕ → ℤ
    f s i = binomial_term c a k i *ℤ (W s *ℤ (pos s ^ℤ i))

    opened : (s : ℕ) → s < n → W s *ℤ (((c *ℤ pos s) +ℤ a) ^ℤ k) ≡ sum (suc k) (λ i. f s i)
    opened s h =
        ap (λ t. W s *ℤ t) (binomial (c *ℤ pos s) a k)
        ∙ sum_scale (W s) (suc k) (binomial_term (c *ℤ pos s) a k)
        ∙ sum_cong (suc k) (λ i. W s *ℤ binomial_term (c *ℤ pos s) a k i) (λ i. f s i)
        (λ i l. ap (λ t. W s *ℤ (pos (choose k i) *ℤ (t *ℤ (a ^ℤ (k - i))))) (pow_product c (pos s) i) ∙ regroup (W s) (pos (choose k i)) (c ^ℤ i) (pos s ^ℤ i) (a ^ℤ (k - i)))

    closed : (i : ℕ) → i < suc k → sum n (λ s. f s i) ≡ binomial_term c a k i *ℤ moment n W i
    closed i h = sym (sum_scale (binomial_term c a k i) n (λ s. W s *ℤ (pos s ^ℤ i)))

gather : (c m b u a t : ℤ) → c *ℤ (m *ℤ ((b *ℤ (u *ℤ a)) *ℤ t)) ≡ ((m *ℤ b) *ℤ ((c *ℤ u) *ℤ a)) *ℤ t
gather c m b u a t = over (c ∷ m ∷ b ∷ u ∷ a ∷ t ∷ []) (λ ρ p q r s v w. simp (p, q, r, s, v, w, reads) (identity ρ _ _ (omega arith)))

part : (m b u a t D l : ℤ) → ((m *ℤ b) *ℤ (u *ℤ a)) *ℤ t ≡ (D *ℤ (b *ℤ ((u *ℤ l) *ℤ a))) +ℤ ((b *ℤ (u *ℤ a)) *ℤ ((m *ℤ t) -ℤ (D *ℤ l)))
part m b u a t D l = over (m ∷ b ∷ u ∷ a ∷ t ∷ D ∷ l ∷ []) (λ ρ p q r s v w x. simp (p, q, r, s, v, w, x, reads) (identity ρ _ _ (omega arith)))

one_one : (x : ℤ) → pos 1 *ℤ (x *ℤ pos 1) ≡ x
one_one x = omega (arith, ints)

less_first : (b r : ℤ) → r ≡ (b +ℤ r) -ℤ b
less_first b r = over (b ∷ r ∷ []) (λ ρ p q. simp (p, q, reads) (identity ρ _ _ (omega arith)))

-- where the errors below k are 0:
-- c·(k+1)·Σ W(s)·(c·s + a)ᵏ = D·((a + c·L)ᵏ⁺¹ − aᵏ⁺¹) + cᵏ⁺¹·E(k)
pub affine : (n k : ℕ) (W : ℕ → ℤ) (D L a c : ℤ) → ((i : ℕ) → i < k → moment_error n W D L i ≡ pos 0) →
    c *ℤ (pos (suc k) *ℤ sum n (λ s. W s *ℤ (((c *ℤ pos s) +ℤ a) ^ℤ k)))
    ≡ (D *ℤ (((a +ℤ (c *ℤ L)) ^ℤ suc k) -ℤ (a ^ℤ suc k))) +ℤ ((c ^ℤ suc k) *ℤ moment_error n W D L k)
affine n k W D L a c e =
    ap (λ t. c *ℤ (pos (suc k) *ℤ t)) (expansion n k W a c)
    ∙ ap (λ t. c *ℤ t) (sum_scale (pos (suc k)) (suc k) f)
    ∙ sum_scale c (suc k) (λ i. pos (suc k) *ℤ f i)
    ∙ sum_cong (suc k) (λ i. c *ℤ (pos (suc k) *ℤ f i)) (λ i. (D *ℤ b (suc i)) +ℤ g i) (λ i h. each i)
    ∙ sum_add (suc k) (λ i. D *ℤ b (suc i)) g
    ∙ ap₂ ◌+ℤ◌ (sym (sum_scale D (suc k) (λ i. b (suc i))) ∙ ap (λ t. D *ℤ t) powers) errors
  where
    f : ℕ → ℤ
    f i = binomial_term c a k i *ℤ moment n W i

    b : ℕ → ℤ
    b i = binomial_term (c *ℤ L) a (suc k) i

    g : ℕ → ℤ
    g i = (pos (choose (suc k) (suc i)) *ℤ ((c ^ℤ suc i) *ℤ (a ^ℤ (k - i)))) *ℤ moment_error n W D L i

    each : (i : ℕ) → c *ℤ (pos (suc k) *ℤ f i) ≡ (D *ℤ b (suc i)) +ℤ g i
    each i =
        gather c (pos (suc k)) (pos (choose k i)) (c ^ℤ i) (a ^ℤ (k - i)) (moment n W i)
        ∙ ap₂ (λ m u. (m *ℤ (u *ℤ (a ^ℤ (k - i)))) *ℤ moment n W i) (ap pos (absorption k i)) (sym (pow_suc c i))
        ∙ part (pos (suc i)) (pos (choose (suc k) (suc i))) (c ^ℤ suc i) (a ^ℤ (k - i)) (moment n W i) D (L ^ℤ suc i)
        ∙ ap₂ (λ u m. (D *ℤ (pos (choose (suc k) (suc i)) *ℤ (u *ℤ (a ^ℤ m)))) +ℤ g i) (sym (pow_product c L (suc i))) (sym (suc-sub-suc k i))

    first : b 0 ≡ a ^ℤ suc k
    first = ap₂ (λ u m. pos 1 *ℤ (u *ℤ (a ^ℤ m))) (pow_zero (c *ℤ L)) (sub-zero (suc k)) ∙ *ℤ_idl (pos 1 *ℤ (a ^ℤ suc k)) ∙ *ℤ_idl (a ^ℤ suc k)

    powers : sum (suc k) (λ i. b (suc i)) ≡ ((a +ℤ (c *ℤ L)) ^ℤ suc k) -ℤ (a ^ℤ suc k)
    powers =
        less_first (b 0) (sum (suc k) (λ i. b (suc i)))
        ∙ ap₂ ◌-ℤ◌ (sym (sum_first (suc k) b) ∙ sym (binomial (c *ℤ L) a (suc k)) ∙ ap (λ t. t ^ℤ suc k) (+ℤ_comm (c *ℤ L) a)) first

    errors : sum (suc k) g ≡ (c ^ℤ suc k) *ℤ moment_error n W D L k
    errors =
        sum_more k g
        ∙ ap₂ ◌+ℤ◌ (sum_zero k g (λ i h. ap (λ t. (pos (choose (suc k) (suc i)) *ℤ ((c ^ℤ suc i) *ℤ (a ^ℤ (k - i)))) *ℤ t) (e i h) ∙ *ℤ-zero (pos (choose (suc k) (suc i)) *ℤ ((c ^ℤ suc i) *ℤ (a ^ℤ (k - i))))))
        (ap (λ t. t *ℤ moment_error n W D L k) (ap₂ (λ m u. pos m *ℤ ((c ^ℤ suc k) *ℤ u)) (choose_all (suc k)) (ap (λ t. a ^ℤ t) (sub_self k) ∙ pow_zero a) ∙ one_one (c ^ℤ suc k)))
        ∙ +ℤ_idl ((c ^ℤ suc k) *ℤ moment_error n W D L k)
