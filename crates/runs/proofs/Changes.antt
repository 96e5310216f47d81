-- Changes of readings keep what a source promises.
use Rattle.std.proofs.Common.{◌≡◌, ℕ, ◌<◌, ◌≤◌, Bool, false, cond, eqb, ℤ, nat_abs, is_some, Some, None, Option, sym, ap, ◌∙◌, arith}
use mathlib.Core.Path.{fun_ext}
use Rattle.std.proofs.lemmas.Bool.Decides.{nat_tests}
use Rattle.sources.specs.Readings.{Readings}
use Rattle.sources.specs.Rows.{with_reading, without_reading}
use Rattle.sources.proofs.Writing.{write_in}
use Rattle.runs.specs.Changes.{with_value}

-- readings that are the same at every station
pub same_readings : (f g : ℕ → Option ℤ) (e : ℕ) → ((s : ℕ) → f s ≡ g s) → ◌≡◌ {A = Readings} (record { reading = f; tolerance = e }) (record { reading = g; tolerance = e })
same_readings f g e same = ap (λ (h : ℕ → Option ℤ). record { reading = h; tolerance = e }) (fun_ext same)

-- every reading that is there is in range
abbrev pub AllInRange : (ℕ → Option ℤ) → Type 0
AllInRange f = (s : ℕ) (v : ℤ) → f s ≡ Some v → nat_abs v ≤ 1048576

-- no reading is there past the last station
abbrev pub NoneBeyond : (ℕ → Option ℤ) → Type 0
NoneBeyond f = (s : ℕ) → 1024 < s → is_some (f s) ≡ false

pub blank_in_range : (f : ℕ → Option ℤ) → ((s : ℕ) → f s ≡ None) → AllInRange f
blank_in_range f none s v e = let n = none s in cc

pub blank_beyond : (f : ℕ → Option ℤ) → ((s : ℕ) → f s ≡ None) → NoneBeyond f
blank_beyond f none s l = ap is_some (none s)

some_value : (b : Bool) (x v : ℤ) (o : Option ℤ) → nat_abs x ≤ 1048576 → (o ≡ Some v → nat_abs v ≤ 1048576) → cond b (Some x) o ≡ Some v → nat_abs v ≤ 1048576
some_value b x v o h k e = grind arith

none_value : (b : Bool) (v : ℤ) (o : Option ℤ) → (o ≡ Some v → nat_abs v ≤ 1048576) → cond b None o ≡ Some v → nat_abs v ≤ 1048576
none_value b v o k e = grind arith

some_beyond : (s k : ℕ) (x : ℤ) (o : Option ℤ) → 1024 < s → k ≤ 1024 → is_some o ≡ false → is_some (cond (eqb s k) (Some x) o) ≡ false
some_beyond s k x o l within none = grind (arith, nat_tests)

none_beyond : (b : Bool) (o : Option ℤ) → is_some o ≡ false → is_some (cond b None o) ≡ false
none_beyond b o none = grind arith

module _ (f g : ℕ → Option ℤ) (k : ℕ) (x : ℤ) (within : k ≤ 1024) (small : nat_abs x ≤ 1048576) (put : g ≡ with_reading k x f) where
  at : (s : ℕ) → g s ≡ cond (eqb s k) (Some x) (f s)
  at s = ap (λ (h : ℕ → Option ℤ). h s) put ∙ write_in k x f s within

  pub put_in_range : AllInRange f → AllInRange g
  put_in_range before s v e = some_value (eqb s k) x v (f s) small (before s v) (sym (at s) ∙ e)

  pub put_beyond : NoneBeyond f → NoneBeyond g
  put_beyond before s l = ap is_some (at s) ∙ some_beyond s k x (f s) l within (before s l)

  pub put_readings : (e : ℕ) → ◌≡◌ {A = Readings} (record { reading = g; tolerance = e }) (with_value k x (record { reading = f; tolerance = e }))
  put_readings e = same_readings g (λ s. cond (eqb s k) (Some x) (f s)) e at

module _ (f g : ℕ → Option ℤ) (k : ℕ) (strike : g ≡ without_reading k f) where
  struck_at : (s : ℕ) → g s ≡ cond (eqb s k) None (f s)
  struck_at s = ap (λ (h : ℕ → Option ℤ). h s) strike

  pub strike_in_range : AllInRange f → AllInRange g
  strike_in_range before s v e = none_value (eqb s k) v (f s) (before s v) (sym (struck_at s) ∙ e)

  pub strike_beyond : NoneBeyond f → NoneBeyond g
  strike_beyond before s l = ap is_some (struck_at s) ∙ none_beyond (eqb s k) (f s) (before s l)
