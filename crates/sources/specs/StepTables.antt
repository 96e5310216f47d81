-- What a step table tells: each value holds from its start on, up to the next start.
use Rattle.std.specs.Prelude.{ℕ, cond, not, ◌||◌, leb, List, length, ℤ, None, Ok, Option, Result, ◌==◌, nat_le, slice_index}
use Rattle.rules.specs.declared.fault.Fault.{Fault}
use Rattle.rules.specs.declared.fault.Cause.TheVariants.{ReadingRange, CountRange, StationOrder}
use Rattle.sources.specs.Readings.{Readings}
use Rattle.sources.specs.Refusals.{miscounted, out_of_order, out_of_range, refused, refused_at}
use Rattle.sources.specs.Rows.{told}
use Rattle.sources.specs.Searches.{value_of, first_where, last_value}
use Rattle.sources.specs.declared.step_table.StepTable.{StepTable}

-- the start of index i
abbrev pub start_of : List ℕ → ℕ → ℕ
start_of starts i = slice_index starts i

-- the value of the last start not above s; none before the first start, and none above station 1,024
abbrev pub step_at : List ℕ → List ℤ → ℕ → Option ℤ
step_at starts values s =
    cond (nat_le s 1024) (last_value (length starts) (λ i. leb (start_of starts i) s) (value_of values)) None

-- the step table of these starts and values, or the first check that fails
abbrev pub step_table_of : List ℕ → List ℤ → Result Readings Fault
step_table_of starts values =
    cond (miscounted (length starts) || (miscounted (length values) || not (length starts == length values))) (refused CountRange 0)
    (refused_at StationOrder (first_where (length starts) (out_of_order (start_of starts)))
    (refused_at ReadingRange (first_where (length values) (out_of_range (value_of values)))
    (Ok (record { reading = step_at starts values; tolerance = 0 }))))

-- what a step table that was made tells
abbrev pub tabled : StepTable → Readings
tabled t = record { reading = told t.readings.row; tolerance = 0 }
