-- What a pair of pressures tells.
use Rattle.std.specs.Prelude.{ℕ, cond, ℤ, pos, ◌==◌}
use Rattle.channels.specs.Kinds.{reading_or_zero}
use Rattle.channels_tests.specs.declared.pressure.Pressures.{Pressures}

-- component 0 is the inlet's pressure, component 1 the outlet's
abbrev pub pressures_told : Pressures → ℕ → ℤ
pressures_told p i = cond (i == 0) (reading_or_zero p.inlet) (cond (i == 1) (reading_or_zero p.outlet) (pos 0))
