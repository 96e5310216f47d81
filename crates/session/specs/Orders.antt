-- What the bytes of an order ask for.
use Rattle.std.specs.Prelude.{ℕ, ◌+◌, ◌*◌, cond, List, [], ◌∷◌, ◌++◌, length, replicate, Ok, Err, Result, ◌==◌, nat_le, slice_index}
use Rattle.rules.specs.BuiltIn.{meaning_of_row, of_code, row_of}
use Rattle.rules.specs.Faults.{carried}
use Rattle.rules.specs.Meaning.{Meaning}
use Rattle.rules.specs.declared.built_in.BuiltIn.{BuiltIn}
use Rattle.rules.specs.declared.fault.Fault.{Fault}
use Rattle.rules.specs.declared.fault.Cause.{Cause}
use Rattle.rules.specs.declared.fault.Cause.TheVariants.{ByteLength, NotOffered}
use Rattle.rules.specs.declared.fault.Origin.TheVariants.{Order as FromOrder}
use Rattle.layers.specs.declared.layer.Layer.{Layer}
use Rattle.layers.specs.declared.layer.Layer.TheVariants.{Panels, Refinement, Stretch}
use Rattle.session.specs.declared.order.Order.{Order}

-- the four parts of an order
pub record Parts : Type 0 where
  pub base : BuiltIn
  pub refinements : ℕ
  pub stretch : ℕ
  pub panels : ℕ

abbrev pub parts : Order → Parts
parts o = record {
  base = o.base;
  refinements = o.refinements;
  stretch = o.stretch;
  panels = o.panels;
}

abbrev pub refused : Cause → ℕ → Fault
refused c p = record { cause = c; layer = FromOrder; place = p }

-- the byte at an index, and the number of the two bytes from an index on, the high one first
abbrev pub byte_at : List ℕ → ℕ → ℕ
byte_at bs i = slice_index bs i

abbrev pub pair_at : List ℕ → ℕ → ℕ
pair_at bs i = 256 * byte_at bs i + byte_at bs (i + 1)

-- 14 unless there are six bytes, then 24 for the base code at place 0 and for the refinements at place 1
abbrev pub order_of : List ℕ → Result Parts Fault
order_of bs =
    cond (length bs == 6)
    (carried (of_code (byte_at bs 0))
    (λ b.
    cond (nat_le (byte_at bs 1) 5)
    (Ok (record { base = b; refinements = byte_at bs 1; stretch = pair_at bs 2; panels = pair_at bs 4 }))
    (Err (refused NotOffered 1))))
    (Err (refused ByteLength 0))

-- the layers in their order from the bottom
abbrev pub layers_of : Parts → List Layer
layers_of o = replicate o.refinements Refinement ++ (Stretch o.stretch ∷ Panels o.panels ∷ [])

-- the rule at the bottom
abbrev pub base_of : Parts → Meaning
base_of o = meaning_of_row (row_of o.base)
