-- The sizes of what a layer makes, as one record.
use Rattle.std.specs.Prelude.{ℕ, ◌/◌, Ok, Err, Result}
use Rattle.rules.specs.Meaning.{Meaning}
use Rattle.rules.specs.declared.fault.Fault.{Fault}
use Rattle.layers.specs.Layers.{accepted_or, at_place, made, refusal}
use Rattle.layers.specs.declared.layer.Layer.{Layer}
use Rattle.layers.specs.declared.sizes.Sizes.{Sizes}

abbrev pub sizes_of : Meaning → Sizes
sizes_of m = record {
  span = m.span;
  degree = m.degree;
  ceiling = m.weighting.ceiling;
  denominator = m.weighting.denominator;
}

-- the sizes with ceiling and denominator divided by g
abbrev pub divided_sizes : ℕ → Meaning → Sizes
divided_sizes g m = record {
  span = m.span;
  degree = m.degree;
  ceiling = m.weighting.ceiling / g;
  denominator = m.weighting.denominator / g;
}

-- the sizes of what the layer makes, or its refusal at a place
abbrev pub sizing : Layer → ℕ → Meaning → Result Sizes Fault
sizing l p r = accepted_or (refusal l r) (Ok (sizes_of (made l r))) (λ e. Err (at_place p e))
