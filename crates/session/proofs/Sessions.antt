-- The steps of a session, each accepted.
use Rattle.std.proofs.Common.{◌≡◌, ℕ, List, Ok, Result}
use Rattle.rules.specs.Meaning.{Meaning}
use Rattle.rules.specs.declared.fault.Fault.{Fault}
use Rattle.layers.specs.Layers.{piling}
use Rattle.rules.specs.Tables.{told}
use Rattle.rules.specs.declared.table.Table.{Table}
use Rattle.sources.specs.Readings.{Readings}
use Rattle.sources.specs.Surveys.{survey_of}
use Rattle.runs.specs.Ledger.{Ledger, blank, loading, result_of, step}
use Rattle.session.specs.Orders.{Parts, base_of, layers_of, order_of}
use Rattle.runs.specs.declared.estimate.Estimate.{Estimate}
use Rattle.session.specs.Sessions.{estimated}

pub all_accepted : (order survey : List ℕ) (p : Parts) (m a b : Table) (r : Readings) (l k : Ledger) (e : Result Estimate Fault) → ◌≡◌ {A = Result Parts Fault} (Ok p) (order_of order) → ◌≡◌ {A = Result Meaning Fault} (Ok (told m)) (piling (layers_of p) 1 (base_of p)) → ◌≡◌ {A = Result Readings Fault} (Ok r) (survey_of survey) → a ≡ m → l ≡ blank → b ≡ a → k ≡ step (told a) l (loading r) → e ≡ result_of (told b) k.readings → e ≡ estimated order survey
all_accepted order survey p m a b r l k e eo em er ea el eb ek ee = rw (← eo, ← em, ← er) (cc)
