-- What a force tells, and which forces are made.
use Rattle.std.specs.Prelude.{ℕ, cond, ℤ, pos, Some, None, Ok, Option, Result, ◌==◌}
use Rattle.rules.specs.declared.fault.Fault.{Fault}
use Rattle.rules.specs.declared.fault.Cause.TheVariants.{ForceComponent}
use Rattle.sources.specs.Refusals.{refused}
use Rattle.channels.specs.Floats.{whole_reading}
use Rattle.channels.specs.Kinds.{reading_or_zero}
use Rattle.channels.specs.declared.force.Force.{Force}
use Rattle.channels.specs.declared.force.RawForce.{RawForce}

-- the components 0, 1 and 2 are x, y and z
abbrev pub force_told : Force → ℕ → ℤ
force_told f i =
    cond (i == 0) (reading_or_zero f.x)
    (cond (i == 1) (reading_or_zero f.y)
    (cond (i == 2) (reading_or_zero f.z) (pos 0)))

-- a component, refused where its float is no whole number within the range
abbrev pub component_made : Option ℤ → ℕ → Result ℤ Fault
component_made (Some v) place = Ok v
component_made None place = refused ForceComponent place

-- the force of three components, refused at the first that is none
abbrev pub force_of : Option ℤ → Option ℤ → Option ℤ → Result Force Fault
force_of None y z = refused ForceComponent 0
force_of (Some a) None z = refused ForceComponent 1
force_of (Some a) (Some b) None = refused ForceComponent 2
force_of (Some a) (Some b) (Some c) = Ok (record { x = a; y = b; z = c })

abbrev pub force_made : RawForce → Result Force Fault
force_made raw = force_of (whole_reading raw.x) (whole_reading raw.y) (whole_reading raw.z)
