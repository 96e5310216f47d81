-- A test at every number below a bound.
use Rattle.std.specs.Prelude.{◌≡◌, ℕ, zero, suc, ◌<◌, Bool, true, ◌&&◌, Decides, refl}
use Rattle.std.proofs.lemmas.Bool.Decides.{Decides-below_and}

-- whether the test passes at each number below n
abbrev pub every : ℕ → (ℕ → Bool) → Bool
every zero p = true
every (suc n) p = p n && every n p

pub decides_every : (n : ℕ) (p : ℕ → Bool) → Decides (every n p) ((k : ℕ) → k < n → p k ≡ true)
decides_every n p =
    Decides-below_and p (λ k. p k ≡ true) (λ m. every m p) (λ k. (λ e. e, λ e. e)) refl (λ _. refl) n

pub every_true : (n : ℕ) (p : ℕ → Bool) → every n p ≡ true → (k : ℕ) → k < n → p k ≡ true
every_true n p = (decides_every n p).0
