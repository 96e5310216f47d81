-- Laws of the greatest common divisor, of two numbers and of a row of weights.
use Rattle.std.proofs.Common.{◌≡◌, ℕ, zero, suc, ◌*◌, ◌/◌, ◌%◌, ◌<◌, ◌≤◌, ℤ, pos, negsuc, ◌*ℤ◌, neg_ℤ, nat_abs, sym, refl, ap, ◌∙◌, inl, inr, mod-lt, mul-zero, le-div_iff_mul-le, div-le_self, arith}
use Prim.Native.Nat.{◌∣◌}
use native.Mathlib.Nat.{dvd_refl, dvd-zero, dvd_trans, dvd-mod_iff, le_of_dvd, pos_of_dvd_of_pos, mul-div_cancel'}
use lib.Signed.{quot_z}
use Rattle.std.proofs.lemmas.Bool.{cases_lt}
use Rattle.algebra.specs.Weights.{ZeroBeyond, reduce_weight}
use Rattle.algebra.specs.Divisors.{gcd_within, gcd, common_divisor, Greatest}

-- more steps than b change nothing
within_same : (n m a b : ℕ) → b ≤ n → b ≤ m → gcd_within n a b ≡ gcd_within m a b
unfolding gcd_within
within_same zero zero a b h k = refl
within_same zero (suc m) a zero h k = refl
within_same zero (suc m) a (suc b) h k = absurd (omega arith)
within_same (suc n) zero a zero h k = refl
within_same (suc n) zero a (suc b) h k = absurd (omega arith)
within_same (suc n) (suc m) a zero h k = refl
within_same (suc n) (suc m) a (suc b) h k =
    let l : a % suc b < suc b = mod-lt a (omega arith) in
    within_same n m (suc b) (a % suc b) (omega arith) (omega arith)

-- Euclid's steps
pub gcd_zero : (a : ℕ) → gcd a 0 ≡ a
unfolding gcd gcd_within
gcd_zero a = refl

pub gcd_step : (a b : ℕ) → 0 < b → gcd a b ≡ gcd b (a % b)
unfolding gcd gcd_within
gcd_step a zero h = absurd (omega arith)
gcd_step a (suc b) h =
    let l : a % suc b < suc b = mod-lt a (omega arith) in
    within_same b (a % suc b) (suc b) (a % suc b) (omega arith) (omega arith)

within_divides : (n a b : ℕ) → b ≤ n → (gcd_within n a b ∣ a) × (gcd_within n a b ∣ b)
unfolding gcd_within
within_divides zero a zero h = (dvd_refl a, dvd-zero a)
within_divides zero a (suc b) h = absurd (omega arith)
within_divides (suc n) a zero h = (dvd_refl a, dvd-zero a)
within_divides (suc n) a (suc b) h =
    let l : a % suc b < suc b = mod-lt a (omega arith) in
    let both = within_divides n (suc b) (a % suc b) (omega arith) in
    ((dvd-mod_iff (gcd_within n (suc b) (a % suc b)) both.0).0 both.1, both.0)

within_greatest : (n a b c : ℕ) → c ∣ a → c ∣ b → c ∣ gcd_within n a b
unfolding gcd_within
within_greatest zero a b c p q = p
within_greatest (suc n) a zero c p q = p
within_greatest (suc n) a (suc b) c p q = within_greatest n (suc b) (a % suc b) c q ((dvd-mod_iff c q).1 p)

-- it divides both numbers, and what divides both divides it
pub gcd_divides : (a b : ℕ) → (gcd a b ∣ a) × (gcd a b ∣ b)
unfolding gcd
gcd_divides a b = within_divides b a b (omega arith)

pub gcd_greatest : (a b c : ℕ) → c ∣ a → c ∣ b → c ∣ gcd a b
unfolding gcd
gcd_greatest a b c p q = within_greatest b a b c p q

-- the divisor of a row is the greatest
pub common_divisor_greatest : (D n : ℕ) (W : ℕ → ℤ) → Greatest D n W (common_divisor D n W)
common_divisor_greatest D zero W =
    record { divides = dvd_refl D; divides_weights = λ s h. absurd (omega arith); greatest = λ c p q. p }
common_divisor_greatest D (suc n) W =
    let below = common_divisor_greatest D n W in
    let both = gcd_divides (common_divisor D n W) (nat_abs (W n)) in
    record {
      divides = dvd_trans (common_divisor D (suc n) W) both.0 below.divides;
      divides_weights = λ s h. elim (cases_lt s n) [
        | inl k ↦ dvd_trans (common_divisor D (suc n) W) both.0 (below.divides_weights s k)
        | inr k ↦ let e : n ≡ s = omega arith in rw (← e) both.1
      ];
      greatest = λ c p q. gcd_greatest (common_divisor D n W) (nat_abs (W n)) c (below.greatest c p (λ s h. q s (omega arith))) (q n (omega arith));
    }

-- a positive denominator bounds it
pub common_divisor_positive : (D n : ℕ) (W : ℕ → ℤ) → 1 ≤ D → 1 ≤ common_divisor D n W
common_divisor_positive D n W h = pos_of_dvd_of_pos (common_divisor_greatest D n W).divides h

pub common_divisor_bounded : (D n : ℕ) (W : ℕ → ℤ) → 1 ≤ D → common_divisor D n W ≤ D
common_divisor_bounded D n W h = le_of_dvd h (common_divisor_greatest D n W).divides

times_negated : (g t : ℕ) → pos g *ℤ neg_ℤ (pos t) ≡ neg_ℤ (pos (g * t))
times_negated g zero = rw mul-zero
times_negated g (suc t) = refl

-- a divisor times the quotient
times_quotient : (g : ℕ) (x : ℤ) → g ∣ nat_abs x → x ≡ pos g *ℤ quot_z x (pos g)
times_quotient g (pos a) d = ap pos (sym (mul-div_cancel' g d))
times_quotient g (negsuc a) d = sym (times_negated g (suc a / g) ∙ ap (λ t. neg_ℤ (pos t)) (mul-div_cancel' g d))

-- each weight of a row that ends at L is the divisor times the reduced weight
pub common_divisor_weights : (D L : ℕ) (W : ℕ → ℤ) → ZeroBeyond L W → (s : ℕ) → W s ≡ pos (common_divisor D (suc L) W) *ℤ reduce_weight (common_divisor D (suc L) W) W s
common_divisor_weights D L W z s =
    times_quotient (common_divisor D (suc L) W) (W s) (elim (cases_lt s (suc L)) [
      | inl k ↦ (common_divisor_greatest D (suc L) W).divides_weights s k
      | inr k ↦ let e : nat_abs (W s) ≡ 0 = ap nat_abs (z s k) in rw e (dvd-zero (common_divisor D (suc L) W))
    ])

-- the reduced denominator
pub common_divisor_denominator : (D n : ℕ) (W : ℕ → ℤ) → D ≡ common_divisor D n W * (D / common_divisor D n W)
common_divisor_denominator D n W = sym (mul-div_cancel' (common_divisor D n W) (common_divisor_greatest D n W).divides)

pub reduced_denominator_positive : (D n : ℕ) (W : ℕ → ℤ) → 1 ≤ D → 1 ≤ D / common_divisor D n W
reduced_denominator_positive D n W h =
    let b = common_divisor_bounded D n W h in
    (le-div_iff_mul-le (common_divisor_positive D n W h)).1 (omega arith)

pub reduced_denominator_bounded : (D n : ℕ) (W : ℕ → ℤ) → D / common_divisor D n W ≤ D
reduced_denominator_bounded D n W = div-le_self D (common_divisor D n W)
