-- The ledger of a run, and what a call makes of a run.
use Rattle.std.specs.Prelude.{◌≡◌, Bool, true, false}
use Rattle.rules.specs.Meaning.{Meaning}
use Rattle.sources.specs.Readings.{Readings}
use Rattle.runs.specs.declared.call.Call.{Call}
use Rattle.runs.specs.declared.call.Call.TheVariants.{Enter, Strike, Declare, Load, Publish, Result as Ask}
use Rattle.runs.specs.declared.run.Run.{Run}
use Rattle.runs.specs.declared.run.State.{State}
use Rattle.runs.specs.declared.run.State.TheVariants.{Gathering, Published}
use Rattle.runs.specs.Holding.{readings_held}
use Rattle.runs.specs.Ledger.{Ledger, Entry, entering, striking, declaring, loading, publishing, asking}

-- what the states mean
abbrev pub is_published : State → Bool
is_published Gathering = false
is_published Published = true

abbrev pub ledger_of : {R : Type 0} → Run R → Ledger
ledger_of r = record { readings = readings_held r.held; published = is_published r.state }

-- the call that a value stands for; a load brings what its source tells
abbrev pub entry_of : {S : Type 0} → (S → Readings) → Call S → Entry
entry_of told (Enter s v) = entering s v
entry_of told (Strike s) = striking s
entry_of told (Declare e) = declaring e
entry_of told (Load source) = loading (told source)
entry_of told Publish = publishing
entry_of told Ask = asking

-- what a call makes of a run over a rule that tells `told`: the reply and the ledger that `replies` and `steps` give; the rule stays
pub record Performed {R A : Type 0} (told : R → Meaning) (replies : Meaning → Ledger → Entry → A) (steps : Meaning → Ledger → Entry → Ledger) (e : Entry) (old new : Run R) (result : A) : Type 0 where
  pub reply : result ≡ replies (told old.rule) (ledger_of old) e
  pub ledger : ledger_of new ≡ steps (told old.rule) (ledger_of old) e
  pub rule : new.rule ≡ old.rule
