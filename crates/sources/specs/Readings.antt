-- What a source of readings tells, and what it promises of it.
use Rattle.std.specs.Prelude.{◌≡◌, ℕ, ◌<◌, ◌≤◌, Bool, ℤ, Some, None, Option, nat_le, unsigned_abs}

-- a reading is -1,048,576 to 1,048,576
abbrev pub is_in_range : ℤ → Bool
is_in_range v = nat_le (unsigned_abs v) 1048576

abbrev pub InRange : ℤ → Type 0
InRange v = unsigned_abs v ≤ 1048576

-- the reading at each station, where there is one, and the tolerance of all of them
pub record Readings : Type 0 where
  pub reading : ℕ → Option ℤ
  pub tolerance : ℕ

-- what every source promises: readings in range, at the stations 0 to 1,024 only, and a tolerance of at most 1,048,576
pub record SoundReadings (m : Readings) : Type 0 where
  pub readings : (s : ℕ) (v : ℤ) → m.reading s ≡ Some v → InRange v
  pub stations : (s : ℕ) → 1024 < s → m.reading s ≡ None
  pub tolerance : m.tolerance ≤ 1048576
