-- What a table tells.
use Rattle.std.specs.Prelude.{pos, slice_index_or}
use Rattle.rules.specs.Meaning.{Meaning, telling}
use Rattle.rules.specs.declared.table.Table.{Table}

abbrev pub told : Table → Meaning
told t =
    telling t.span t.denominator t.degree t.symmetric t.ceiling (λ s. slice_index_or t.weights s (pos 0))
