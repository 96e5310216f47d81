-- What one of two kinds of source tells: what the one that it holds tells.
use Rattle.sources.specs.Readings.{Readings}
use Rattle.sources.specs.declared.either.Either.{Either}
use Rattle.sources.specs.declared.either.Either.TheVariants.{First, Second}

abbrev pub either : {F S : Type 0} → (F → Readings) → (S → Readings) → Either F S → Readings
either f s (First x) = f x
either f s (Second y) = s y
