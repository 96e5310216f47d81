-- Weights at the front of a buffer.
use Rattle.std.proofs.Common.{◌≡◌, ℕ, zero, suc, ◌≤◌, List, [], ◌∷◌, ◌++◌, length, get_or, take, ℤ, pos, refl, ap, ◌∙◌, arith, take-suc}
use Rattle.battenlime.specs.Weights.{listed}

-- the front of a list, value by value
pub front_listed : (xs : List ℤ) (n : ℕ) → n ≤ length xs → take n xs ≡ listed n (λ s. get_or xs s (pos 0))
front_listed xs zero h = refl
front_listed xs (suc n) h =
    take-suc xs n (pos 0) h ∙ ap (λ t. t ++ (get_or xs n (pos 0) ∷ [])) (front_listed xs n (omega arith))
