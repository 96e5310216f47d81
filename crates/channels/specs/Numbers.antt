-- What a plain number tells, and which numbers are made.
use Rattle.std.specs.Prelude.{ℕ, cond, ℤ, pos, Ok, Result, ◌==◌}
use Rattle.rules.specs.declared.fault.Fault.{Fault}
use Rattle.rules.specs.declared.fault.Cause.TheVariants.{ReadingRange}
use Rattle.sources.specs.Readings.{is_in_range}
use Rattle.sources.specs.Refusals.{refused}
use Rattle.channels.specs.Kinds.{reading_or_zero}
use Rattle.channels.specs.declared.number.Number.{Number}

-- component 0 is the number
abbrev pub number_told : Number → ℕ → ℤ
number_told n i = cond (i == 0) (reading_or_zero n.value) (pos 0)

-- the number where it is a reading
abbrev pub number_made : ℤ → Result Number Fault
number_made v = cond (is_in_range v) (Ok (record { value = v })) (refused ReadingRange 0)
