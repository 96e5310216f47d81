-- The lines of a report, and what a buffer holds after one is written into it.
use Rattle.std.specs.Prelude.{ℕ, cond, List, [], ◌∷◌, ◌++◌, length, drop, ℤ, Some, decimal, Option, nat_le}
use Rattle.std.specs.Fmt.{signed_decimal}
use Rattle.rules.specs.Faults.{number_of, name_of}
use Rattle.rules.specs.declared.fault.Fault.{Fault}
use Rattle.rules.specs.declared.fault.Cause.TheVariants.{BufferShort}
use Rattle.rules.specs.declared.fault.Origin.TheVariants.{Output}
use Rattle.report.specs.declared.written.Written.{Written}

abbrev pub space : List ℕ
space = 32 ∷ []

abbrev pub newline : List ℕ
newline = 10 ∷ []

-- the word REFUSED in ASCII
abbrev pub refused : List ℕ
refused = 82 ∷ 69 ∷ 70 ∷ 85 ∷ 83 ∷ 69 ∷ 68 ∷ []

-- value numerator, denominator, degree and radius numerator
abbrev pub line_of_result : ℤ → ℕ → ℕ → ℤ → List ℕ
line_of_result numerator denominator degree radius =
    signed_decimal numerator ++ space ++ decimal denominator ++ space ++ decimal degree ++ space ++ signed_decimal radius ++ newline

-- REFUSED, number, layer and place
abbrev pub line_of_fault : Fault → List ℕ
line_of_fault f =
    refused ++ space ++ decimal (number_of f.cause) ++ space ++ name_of f.layer ++ space ++ decimal f.place ++ newline

-- a buffer that is too short for the line: the place tells the length that the line needs
abbrev pub too_short : List ℕ → Fault
too_short line = record { cause = BufferShort; layer = Output; place = length line }

-- what a caller finds after a call
pub record Outcome : Type 0 where
  pub buffer : List ℕ
  pub report : Written

-- A line that fits stands at the front of the buffer and leaves the bytes after it as they were; one that does not fit leaves the whole buffer.
abbrev pub delivered : List ℕ → Option Fault → List ℕ → Outcome
delivered line told before =
    cond (nat_le (length line) (length before))
    (record { buffer = line ++ drop (length line) before; report = record { len = length line; fault = told } })
    (record { buffer = before; report = record { len = 0; fault = Some (too_short line) } })
