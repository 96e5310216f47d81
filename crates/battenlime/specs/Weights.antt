-- The rule that an order asks for, and its weights in a buffer.
use Rattle.std.specs.Prelude.{ℕ, zero, suc, cond, List, [], ◌∷◌, ◌++◌, drop, ℤ, Some, None, Ok, Err, Result, nat_le}
use Rattle.rules.specs.Faults.{carried}
use Rattle.rules.specs.Meaning.{Meaning}
use Rattle.rules.specs.declared.fault.Cause.TheVariants.{BufferShort}
use Rattle.rules.specs.declared.fault.Fault.{Fault}
use Rattle.rules.specs.declared.fault.Origin.TheVariants.{Output}
use Rattle.layers.specs.Layers.{piling}
use Rattle.session.specs.Orders.{base_of, layers_of, order_of}
use Rattle.battenlime.specs.declared.records.RuleRecord.{RuleRecord}
use Rattle.battenlime.specs.Records.{refusal_shown}

-- the rule, or the first refusal: of the order, or of a layer from the bottom
abbrev pub ordered : List ℕ → Result Meaning Fault
ordered order = carried (order_of order) (λ parts. piling (layers_of parts) 1 (base_of parts))

-- 23 from OUTPUT, with the number of places that are needed
abbrev pub too_few_places : ℕ → Fault
too_few_places needed = record { cause = BufferShort; layer = Output; place = needed }

-- the rule, where there is a place for the weight of each station
abbrev pub fitted : Result Meaning Fault → (places : ℕ) → Result Meaning Fault
fitted rule places =
    carried rule
    (λ m. cond (nat_le m.weighting.stations places) (Ok m) (Err (too_few_places m.weighting.stations)))

-- the first n values of f
abbrev pub listed : ℕ → (ℕ → ℤ) → List ℤ
listed zero f = []
listed (suc n) f = listed n f ++ (f n ∷ [])

-- the buffer afterwards: the weights, and what stood beyond them; as it was where the rule is refused
abbrev pub weights_left : Result Meaning Fault → List ℤ → List ℤ
weights_left (Ok m) before = listed m.weighting.stations m.weighting.weight ++ drop m.weighting.stations before
weights_left (Err f) before = before

-- what a rule tells but its weights
abbrev pub rule_told : Meaning → RuleRecord
rule_told m = record {
  span = m.span;
  denominator = m.weighting.denominator;
  degree = m.degree;
  ceiling = m.weighting.ceiling;
  symmetric = cond m.symmetric 1 0;
  refusal = refusal_shown None;
}

-- the same, or zeros with the refusal
abbrev pub rule_shown : Result Meaning Fault → RuleRecord
rule_shown (Ok m) = rule_told m
rule_shown (Err f) = record {
  span = 0;
  denominator = 0;
  degree = 0;
  ceiling = 0;
  symmetric = 0;
  refusal = refusal_shown (Some f);
}
