-- A rule of a type that the library does not have.
use Rattle.std.specs.Prelude.{false, [], ◌∷◌, pos, negsuc, slice_index_or}
use Rattle.rules.specs.Meaning.{Meaning, telling}

-- span 3, denominator 8, degree 2, ceiling 41, and the weights 8, −6, 24, −2
abbrev pub lopsided_rule : Meaning
lopsided_rule = telling 3 8 2 false 41 (λ s. slice_index_or (pos 8 ∷ negsuc 5 ∷ pos 24 ∷ negsuc 1 ∷ []) s (pos 0))
