-- An array of weights that holds a row.
use Rattle.std.specs.Prelude.{◌≡◌, ℕ, List, ℤ, pos, slice_index_or}

-- the array, 0 past its end, is the row f
abbrev pub Holds : List ℤ → (ℕ → ℤ) → Type 0
Holds ws f = (s : ℕ) → slice_index_or ws s (pos 0) ≡ f s
