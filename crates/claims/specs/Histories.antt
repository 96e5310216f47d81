-- A list of calls on a new run: the ledger and the replies, and what a person who reads the list knows of the ledger.
use Rattle.std.specs.Prelude.{◌≡◌, ℕ, ◌≤◌, true, cond, ◌⊎◌, List, [], ◌∷◌, ◌++◌, ℤ, Some, None, Option, Result, ◌==◌, ◌≢◌, nat_le}
use Rattle.rules.specs.Meaning.{Meaning}
use Rattle.rules.specs.declared.fault.Fault.{Fault}
use Rattle.sources.specs.Readings.{Readings}
use Rattle.runs.specs.Ledger.{Entry, Ledger, answer, asking, blank, declaring, entering, loading, publishing, refusal, step, striking}
use Rattle.runs.specs.declared.estimate.Estimate.{Estimate}

-- the ledger after a list of calls
abbrev pub ledger_from : Meaning → Ledger → List Entry → Ledger
ledger_from m l [] = l
ledger_from m l (e ∷ es) = ledger_from m (step m l e) es

-- the replies to a list of calls
abbrev pub replies_from : Meaning → Ledger → List Entry → List (Result (Option Estimate) Fault)
replies_from m l [] = []
replies_from m l (e ∷ es) = answer m l e ∷ replies_from m (step m l e) es

-- on a new run
abbrev pub ledger_after : Meaning → List Entry → Ledger
ledger_after m es = ledger_from m blank es

abbrev pub replies_to : Meaning → List Entry → List (Result (Option Estimate) Fault)
replies_to m es = replies_from m blank es

-- the call e is accepted after the calls `before`
abbrev pub Accepted : Meaning → List Entry → Entry → Type 0
Accepted m before e = refusal m (ledger_after m before) e ≡ None

-- the reading of a source, as what is written
abbrev pub written : Option ℤ → Option (Option ℤ)
written (Some v) = Some (Some v)
written None = None

-- what a call writes at the station s, a reading or its removal; none where it leaves s alone
abbrev pub writes : Meaning → Entry → ℕ → Option (Option ℤ)
writes m (entering k v) s = cond (s == k) (Some (Some v)) None
writes m (striking k) s = cond (s == k) (Some None) None
writes m (declaring e) s = None
writes m (loading source) s = cond (nat_le s m.span) (written (source.reading s)) None
writes m publishing s = None
writes m asking s = None

-- no accepted call of `later`, which follow `before`, has the property P
abbrev pub NoneOf : Meaning → (Entry → Type 0) → (before later : List Entry) → Type 0
NoneOf m P before later =
    (xs ys : List Entry) (e : Entry) → later ≡ xs ++ (e ∷ ys) → Accepted m (before ++ xs) e → P e → ⊥

-- the last accepted call that touched the station s wrote w there
pub record LastWrite (m : Meaning) (es : List Entry) (s : ℕ) (w : Option ℤ) : Type 0 where
  pub before : List Entry
  pub call : Entry
  pub later : List Entry
  pub split : es ≡ before ++ (call ∷ later)
  pub accepted : Accepted m before call
  pub wrote : writes m call s ≡ Some w
  pub last : NoneOf m (λ e. writes m e s ≢ None) (before ++ (call ∷ [])) later

-- a call is a declaration
abbrev pub Declares : Entry → Type 0
Declares e = (t : ℕ) × (e ≡ declaring t)

-- the last accepted declaration is t, and `later` came after it; 0 where there is none
pub record LastDeclared (m : Meaning) (es before later : List Entry) (t : ℕ) : Type 0 where
  pub split : es ≡ before ++ later
  pub declared : ((before ≡ []) × (t ≡ 0)) ⊎ ((xs : List Entry) × (before ≡ xs ++ (declaring t ∷ [])) × Accepted m xs (declaring t))
  pub last : NoneOf m Declares before later

-- an accepted load of `later`, which follow `before`, brought a source
pub record Loaded (m : Meaning) (before later : List Entry) (source : Readings) : Type 0 where
  pub earlier : List Entry
  pub rest : List Entry
  pub split : later ≡ earlier ++ (loading source ∷ rest)
  pub accepted : Accepted m (before ++ earlier) (loading source)

-- t is the last accepted declaration or the greatest tolerance of a load since, whichever is greater
pub record ToleranceKept (m : Meaning) (es : List Entry) (t : ℕ) : Type 0 where
  pub before : List Entry
  pub later : List Entry
  pub declared : ℕ
  pub standing : LastDeclared m es before later declared
  pub at_least_declared : declared ≤ t
  pub at_least_loads : (source : Readings) → Loaded m before later source → source.tolerance ≤ t
  pub one_of_them : (t ≡ declared) ⊎ ((source : Readings) × Loaded m before later source × (source.tolerance ≡ t))

-- a publication was accepted
pub record PublishedIn (m : Meaning) (es : List Entry) : Type 0 where
  pub before : List Entry
  pub later : List Entry
  pub split : es ≡ before ++ (publishing ∷ later)
  pub accepted : Accepted m before publishing

-- the ledger l is what a person would keep of the calls
pub record Kept (m : Meaning) (es : List Entry) (l : Ledger) : Type 0 where
  pub reads : (s : ℕ) (v : ℤ) → l.readings.reading s ≡ Some v → LastWrite m es s (Some v)
  pub reads_only : (s : ℕ) (v : ℤ) → LastWrite m es s (Some v) → l.readings.reading s ≡ Some v
  pub tolerance : ToleranceKept m es l.readings.tolerance
  pub published : l.published ≡ true → PublishedIn m es
  pub published_only : PublishedIn m es → l.published ≡ true
