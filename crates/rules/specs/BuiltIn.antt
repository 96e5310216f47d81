-- The rules that are built in: one row for each code, 1 to 10.
use Rattle.std.specs.Prelude.{ℕ, suc, ◌-◌, true, false, cond, ◌&&◌, List, [], ◌∷◌, get_or, pos, negsuc, Ok, Err, Result, nat_le, slice_index_or, unsigned_abs}
use Rattle.algebra.specs.Sums.{sum, abs}
use Rattle.rules.specs.Meaning.{Meaning, telling}
use Rattle.rules.specs.declared.built_in.BuiltIn.{BuiltIn}
use Rattle.rules.specs.declared.built_in.BuiltIn.TheVariants.{Trapezoid, Simpson, ThreeEighths, Boole, SixPoint, SevenPoint, EightPoint, NinePoint, Midpoint, LeftRectangle}
use Rattle.rules.specs.declared.built_in.Row.{Row}
use Rattle.rules.specs.declared.fault.Fault.{Fault}
use Rattle.rules.specs.declared.fault.Cause.TheVariants.{NotOffered}
use Rattle.rules.specs.declared.fault.Origin.TheVariants.{Order}

-- the code of a rule
abbrev pub code_of : BuiltIn → ℕ
code_of Trapezoid = 1
code_of Simpson = 2
code_of ThreeEighths = 3
code_of Boole = 4
code_of SixPoint = 5
code_of SevenPoint = 6
code_of EightPoint = 7
code_of NinePoint = 8
code_of Midpoint = 9
code_of LeftRectangle = 10

abbrev pub offered : List BuiltIn
offered =
    Trapezoid ∷ Simpson ∷ ThreeEighths ∷ Boole ∷ SixPoint ∷ SevenPoint ∷ EightPoint ∷ NinePoint ∷ Midpoint ∷ LeftRectangle ∷ []

-- the rule of a code, 24 from ORDER at place 0 for a code that is not 1 to 10
abbrev pub of_code : ℕ → Result BuiltIn Fault
of_code c =
    cond (nat_le 1 c && nat_le c 10) (Ok (slice_index_or offered (c - 1) Trapezoid))
    (Err (record { cause = NotOffered; layer = Order; place = 0 }))

-- the closed Newton–Cotes rules of 2 to 9 points, the midpoint rule and the left rectangle, by code
abbrev pub rows : List Row
rows =
    record { span = 1; denominator = 2; degree = 1; symmetric = true; ceiling = 2; weights = pos 1 ∷ pos 1 ∷ pos 0 ∷ pos 0 ∷ pos 0 ∷ pos 0 ∷ pos 0 ∷ pos 0 ∷ pos 0 ∷ [] } ∷
    record { span = 2; denominator = 3; degree = 3; symmetric = true; ceiling = 6; weights = pos 1 ∷ pos 4 ∷ pos 1 ∷ pos 0 ∷ pos 0 ∷ pos 0 ∷ pos 0 ∷ pos 0 ∷ pos 0 ∷ [] } ∷
    record { span = 3; denominator = 8; degree = 3; symmetric = true; ceiling = 24; weights = pos 3 ∷ pos 9 ∷ pos 9 ∷ pos 3 ∷ pos 0 ∷ pos 0 ∷ pos 0 ∷ pos 0 ∷ pos 0 ∷ [] } ∷
    record { span = 4; denominator = 45; degree = 5; symmetric = true; ceiling = 180; weights = pos 14 ∷ pos 64 ∷ pos 24 ∷ pos 64 ∷ pos 14 ∷ pos 0 ∷ pos 0 ∷ pos 0 ∷ pos 0 ∷ [] } ∷
    record { span = 5; denominator = 288; degree = 5; symmetric = true; ceiling = 1440; weights = pos 95 ∷ pos 375 ∷ pos 250 ∷ pos 250 ∷ pos 375 ∷ pos 95 ∷ pos 0 ∷ pos 0 ∷ pos 0 ∷ [] } ∷
    record { span = 6; denominator = 140; degree = 7; symmetric = true; ceiling = 840; weights = pos 41 ∷ pos 216 ∷ pos 27 ∷ pos 272 ∷ pos 27 ∷ pos 216 ∷ pos 41 ∷ pos 0 ∷ pos 0 ∷ [] } ∷
    record { span = 7; denominator = 17280; degree = 7; symmetric = true; ceiling = 120960; weights = pos 5257 ∷ pos 25039 ∷ pos 9261 ∷ pos 20923 ∷ pos 20923 ∷ pos 9261 ∷ pos 25039 ∷ pos 5257 ∷ pos 0 ∷ [] } ∷
    record { span = 8; denominator = 14175; degree = 9; symmetric = true; ceiling = 164568; weights = pos 3956 ∷ pos 23552 ∷ negsuc 3711 ∷ pos 41984 ∷ negsuc 18159 ∷ pos 41984 ∷ negsuc 3711 ∷ pos 23552 ∷ pos 3956 ∷ [] } ∷
    record { span = 2; denominator = 1; degree = 1; symmetric = true; ceiling = 2; weights = pos 0 ∷ pos 2 ∷ pos 0 ∷ pos 0 ∷ pos 0 ∷ pos 0 ∷ pos 0 ∷ pos 0 ∷ pos 0 ∷ [] } ∷
    record { span = 1; denominator = 1; degree = 0; symmetric = false; ceiling = 1; weights = pos 1 ∷ pos 0 ∷ pos 0 ∷ pos 0 ∷ pos 0 ∷ pos 0 ∷ pos 0 ∷ pos 0 ∷ pos 0 ∷ [] } ∷
    []

abbrev pub row_of : BuiltIn → Row
row_of b = slice_index_or rows (code_of b - 1) (record { span = 0; denominator = 0; degree = 0; symmetric = false; ceiling = 0; weights = [] })

-- what a row tells; the ceiling is the sum of the absolute weights
abbrev pub meaning_of_row : Row → Meaning
meaning_of_row r =
    telling r.span r.denominator r.degree r.symmetric
    (unsigned_abs (sum (suc r.span) (λ s. abs (slice_index_or r.weights s (pos 0)))))
    (λ s. get_or r.weights s (pos 0))
