-- What the bytes of a report mean, read as a person reads them.
use Rattle.std.specs.Prelude.{◌≡◌, ℕ, suc, ◌+◌, ◌-◌, ◌*◌, ◌<◌, ◌≤◌, List, [], ◌∷◌, ◌++◌, length, ℤ, pos, negsuc, slice_index, slice_index_or}
use Rattle.rules.specs.Faults.{number_of, name_of}
use Rattle.rules.specs.declared.fault.Fault.{Fault}
use Rattle.report.specs.Reports.{space, newline, refused}

-- the number that digits write, read from the left after those of n
abbrev pub read_after : ℕ → List ℕ → ℕ
read_after n [] = n
read_after n (c ∷ cs) = read_after (n * 10 + (c - 48)) cs

-- digits that read back to n, with no zero in front unless it is the only digit
pub record DecimalText (n : ℕ) (bytes : List ℕ) : Type 0 where
  pub some_digit : 0 < length bytes
  pub only_digits : (k : ℕ) → k < length bytes → (48 ≤ slice_index bytes k) × (slice_index bytes k ≤ 57)
  pub reads_back : read_after 0 bytes ≡ n
  pub no_leading_zero : slice_index_or bytes 0 0 ≡ 48 → length bytes ≡ 1

-- the same with a minus sign before the digits of a negative number
abbrev pub SignedText : ℤ → List ℕ → Type 0
SignedText (pos n) bytes = DecimalText n bytes
SignedText (negsuc n) bytes = (digits : List ℕ) × (bytes ≡ 45 ∷ digits) × DecimalText (suc n) digits

-- four numbers with single spaces between them, ended by a newline
pub record ResultLine (numerator : ℤ) (denominator degree : ℕ) (radius : ℤ) (line : List ℕ) : Type 0 where
  pub first : List ℕ
  pub second : List ℕ
  pub third : List ℕ
  pub fourth : List ℕ
  pub parts : line ≡ first ++ space ++ second ++ space ++ third ++ space ++ fourth ++ newline
  pub numerator_text : SignedText numerator first
  pub denominator_text : DecimalText denominator second
  pub degree_text : DecimalText degree third
  pub radius_text : SignedText radius fourth

-- REFUSED, the cause's number, the layer's name and the place
pub record RefusalLine (f : Fault) (line : List ℕ) : Type 0 where
  pub first : List ℕ
  pub second : List ℕ
  pub parts : line ≡ refused ++ space ++ first ++ space ++ name_of f.layer ++ space ++ second ++ newline
  pub number_text : DecimalText (number_of f.cause) first
  pub place_text : DecimalText f.place second

-- P holds of these bytes and of no others
pub record TheOnly (P : List ℕ → Type 0) (bytes : List ℕ) : Type 0 where
  pub holds : P bytes
  pub unique : (other : List ℕ) → P other → other ≡ bytes
