-- The readings that a run holds.
use Rattle.sources.specs.Readings.{Readings}
use Rattle.sources.specs.Rows.{told}
use Rattle.runs.specs.declared.held.Held.{Held}

abbrev pub readings_held : Held → Readings
readings_held h = record { reading = told h.row; tolerance = h.tolerance }
