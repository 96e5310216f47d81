-- What a case gives: its pile and its ledger, and the replies to its calls.
use Rattle.std.specs.Prelude.{ℕ, cond, List, ◌++◌, length, drop, Ok, Err, Option, Result, nat_le}
use Rattle.rules.specs.Faults.{carried}
use Rattle.rules.specs.Meaning.{Meaning}
use Rattle.rules.specs.Tables.{told}
use Rattle.rules.specs.declared.fault.Cause.TheVariants.{BufferShort}
use Rattle.rules.specs.declared.fault.Fault.{Fault}
use Rattle.rules.specs.declared.fault.Origin.TheVariants.{Output}
use Rattle.rules.specs.declared.table.Table.{Table}
use Rattle.layers.specs.Layers.{piling}
use Rattle.layers.specs.declared.layer.Layer.{Layer}
use Rattle.runs.specs.Ledger.{Entry, Ledger}
use Rattle.runs.specs.Recorded.{ledger_of}
use Rattle.runs.specs.declared.estimate.Estimate.{Estimate}
use Rattle.runs.specs.declared.run.Run.{Run}
use Rattle.claims.specs.Histories.{ledger_after, replies_to}

-- a rule and the ledger of a run over it
pub record Account : Type 0 where
  pub pile : Meaning
  pub ledger : Ledger

abbrev pub account_of : Run Table → Account
account_of r = record { pile = told r.rule; ledger = ledger_of r }

-- 23 from OUTPUT, with the number of replies that are due
abbrev pub too_few_places : List Entry → Fault
too_few_places es = record { cause = BufferShort; layer = Output; place = length es }

-- the account of a list of calls on a new run over the layers on b, refused by a layer, or where there are fewer places than replies
abbrev pub replayed : Meaning → List Layer → List Entry → (places : ℕ) → Result Account Fault
replayed b ls es places =
    carried (piling ls 1 b)
    (λ m. cond (nat_le (length es) places) (Ok (record { pile = m; ledger = ledger_after m es })) (Err (too_few_places es)))

-- the places afterwards: the replies, and what stood beyond them; as they were where the case is refused
abbrev pub replies_left : Result Account Fault → List Entry → List (Result (Option Estimate) Fault) → List (Result (Option Estimate) Fault)
replies_left (Ok a) es before = replies_to a.pile es ++ drop (length es) before
replies_left (Err f) es before = before
