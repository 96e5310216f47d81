-- What a change makes of readings.
use Rattle.std.specs.Prelude.{ℕ, max, cond, ℤ, Some, None, Option, ◌==◌, nat_le}
use Rattle.sources.specs.Readings.{Readings}

-- no reading, and a tolerance of 0
abbrev pub nothing : Readings
nothing = record { reading = λ s. None; tolerance = 0 }

-- the value v at the station k
abbrev pub with_value : ℕ → ℤ → Readings → Readings
with_value k v r = record { reading = λ s. cond (s == k) (Some v) (r.reading s); tolerance = r.tolerance }

-- no value at the station k
abbrev pub without_value : ℕ → Readings → Readings
without_value k r = record { reading = λ s. cond (s == k) None (r.reading s); tolerance = r.tolerance }

-- another tolerance
abbrev pub with_tolerance : ℕ → Readings → Readings
with_tolerance e r = record { reading = r.reading; tolerance = e }

-- the first reading if there is one, else the second
abbrev pub or_kept : Option ℤ → Option ℤ → Option ℤ
or_kept (Some v) kept = Some v
or_kept None kept = kept

-- each reading that a source has at the stations 0 to L
abbrev pub with_readings : ℕ → Readings → Readings → Readings
with_readings L source r = record {
  reading = λ s. cond (nat_le s L) (or_kept (source.reading s) (r.reading s)) (r.reading s);
  tolerance = r.tolerance;
}

-- the same, with the greater tolerance
abbrev pub with_source : ℕ → Readings → Readings → Readings
with_source L source r = with_tolerance (max r.tolerance source.tolerance) (with_readings L source r)
