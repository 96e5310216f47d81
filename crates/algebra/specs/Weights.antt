-- Rows of weights W(0), W(1), ..: what a rule promises of them, and the rows that the layers make of a row.
use Rattle.std.specs.Prelude.{◌≡◌, ℕ, suc, ◌-◌, ◌*◌, ◌/◌, ◌%◌, ◌<◌, ◌≤◌, cond, ℤ, pos, ◌+ℤ◌, ◌-ℤ◌, ◌*ℤ◌, ◌==◌, int_div, nat_le}
use Rattle.algebra.specs.Sums.{sum, ◌^ℤ◌}

-- over the stations 0 to L and the denominator D the weights give ∫₀ᴸ xᵏ exactly for each k up to d:
-- (k+1) · Σ W(s)·sᵏ = D · Lᵏ⁺¹
abbrev pub Exact : (L : ℕ) (W : ℕ → ℤ) (D d : ℕ) → Type 0
Exact L W D d = (k : ℕ) → k ≤ d → pos (suc k) *ℤ sum (suc L) (λ s. W s *ℤ (pos s ^ℤ k)) ≡ pos D *ℤ (pos L ^ℤ suc k)

-- W is 0 past L
abbrev pub ZeroBeyond : (L : ℕ) (W : ℕ → ℤ) → Type 0
ZeroBeyond L W = (s : ℕ) → L < s → W s ≡ pos 0

-- W reads the same from either end of 0 to L
abbrev pub Mirrored : (L : ℕ) (W : ℕ → ℤ) → Type 0
Mirrored L W = (s : ℕ) → s ≤ L → W s ≡ W (L - s)

-- W moved up by a stations: W(s − a), and 0 below a
abbrev pub shifted : (ℕ → ℤ) → ℕ → ℕ → ℤ
shifted W a s = cond (nat_le a s) (W (s - a)) (pos 0)

-- m panels of length L side by side; where two meet, their weights add
abbrev pub panel_weight : (m L : ℕ) → (ℕ → ℤ) → ℕ → ℤ
panel_weight m L W s = sum m (λ j. shifted W (j * L) s)

-- k·W(s/k) where k divides s, 0 elsewhere
abbrev pub stretch_weight : (k : ℕ) → (ℕ → ℤ) → ℕ → ℤ
stretch_weight k W s = cond (s % k == 0) (pos k *ℤ W (s / k)) (pos 0)

-- the row 0 to L read backwards
abbrev pub mirror_weight : (L : ℕ) → (ℕ → ℤ) → ℕ → ℤ
mirror_weight L W s = cond (nat_le s L) (W (L - s)) (pos 0)

-- Richardson: F times the rule in two panels, less the rule stretched by two
abbrev pub refine_weight : (F L : ℕ) → (ℕ → ℤ) → ℕ → ℤ
refine_weight F L W s = (pos F *ℤ (W s +ℤ shifted W L s)) -ℤ stretch_weight 2 W s

-- each weight divided by g
abbrev pub reduce_weight : (g : ℕ) → (ℕ → ℤ) → ℕ → ℤ
reduce_weight g W s = int_div (W s) (pos g)
