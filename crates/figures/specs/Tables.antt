-- Tables of subjects, each with what it tells.
use Rattle.std.specs.Prelude.{◌≡◌, List, [], ◌∷◌}

-- a subject, and what it is said to tell
pub record Row (A B : Type 0) : Type 0 where
  pub subject : A
  pub told : B

-- every subject of the table tells, by f, what stands beside it
abbrev pub AllTell : {A B : Type 0} → (A → B) → List (Row A B) → Type 0
AllTell f [] = Unit {0}
AllTell f (row ∷ rows) = (f row.subject ≡ row.told) × AllTell f rows
