-- What the records of a reading kind share.
use Rattle.std.specs.Prelude.{cond, ℤ, pos}
use Rattle.sources.specs.Readings.{is_in_range}

-- a kept number tells itself where it is a reading, and 0 beyond the range
abbrev pub reading_or_zero : ℤ → ℤ
reading_or_zero v = cond (is_in_range v) v (pos 0)
