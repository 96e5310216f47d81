-- A step table written out step by step.
use Rattle.std.proofs.Common.{◌≡◌, ℕ, zero, suc, ◌+◌, ◌-◌, ◌<◌, ◌≤◌, Bool, true, false, cond, ◌&&◌, ltb, leb, List, length, get_or, drop, ◌∷◌, length-drop, ℤ, pos, Some, None, Option, sym, refl, ap, ◌∙◌, subst, ⊎_elim, arith}
use Rattle.std.proofs.lemmas.Bool.{le-leb, lt-leb, lt-ltb, le-ltb, leb-false, or_parts, and_cases, cases_eq, cases_lt, cond-true, cond-false, both_ways}
use Rattle.std.proofs.lemmas.Grind.{get_or_default_zero}
use Rattle.std.proofs.lemmas.List.{get_or_past, drop_more}
use Rattle.sources.specs.Readings.{InRange}
use Rattle.sources.specs.Refusals.{out_of_order}
use Rattle.sources.specs.Rows.{blank, with_readings}
use Rattle.sources.specs.Searches.{value_of, first_where, last_value}
use Rattle.sources.specs.StepTables.{start_of, step_at}
use Rattle.sources.proofs.Searches.{first_none}
use Rattle.sources.proofs.Writing.{station_most, value_in_range}

-- what is left of a list behind k elements begins with the element k
pub left_from : {X : Type 0} (xs rest : List X) (k : ℕ) (x d : X) → drop k xs ≡ x ∷ rest → (k < length xs) × (x ≡ get_or xs k d) × (rest ≡ drop (k + 1) xs)
left_from xs rest k x d e =
    let more : length xs - k ≡ suc (length rest) = sym (length-drop k xs) ∙ ap length e in
    let here : k < length xs = omega (arith, more) in
    let is : x ∷ rest ≡ get_or xs k d ∷ drop (k + 1) xs = sym e ∙ drop_more xs k d here in
    (here, cc, cc)

-- starts in order rise
rises : (start : ℕ → ℕ) (j : ℕ) → out_of_order start (suc j) ≡ false → start j < start (suc j)
rises start j e =
    ⊎_elim (λ a. absurd (both_ways (ltb 0 (suc j)) a (lt-ltb 0 (suc j) (omega arith))))
    (λ b. let back : suc j - 1 ≡ j = omega arith in subst (λ (k : ℕ). start k < start (suc j)) back (leb-false (start (suc j)) (start (suc j - 1)) b))
    (and_cases (ltb 0 (suc j)) _ (or_parts (ltb 1024 (start (suc j))) _ e).1)

pub rising : (start : ℕ → ℕ) (n : ℕ) → ((k : ℕ) → k < n → out_of_order start k ≡ false) → (i j : ℕ) → i < j → j < n → start i < start j
rising start n ok i zero h l = absurd (omega arith)
rising start n ok i (suc j) h l =
    let step = rises start j (ok (suc j) l) in
    ⊎_elim (λ e. subst (λ (k : ℕ). start k < start (suc j)) (sym e) step)
    (λ d. let before = rising start n ok i j (omega arith) (omega arith) in omega arith) (cases_eq i j)

-- indices at which the test fails change nothing
pub last_upto : (test : ℕ → Bool) (value : ℕ → ℤ) (m n : ℕ) → m ≤ n → ((k : ℕ) → m ≤ k → k < n → test k ≡ false) → last_value n test value ≡ last_value m test value
last_upto test value m zero h fails = let z : 0 ≡ m = omega arith in ap (λ (k : ℕ). last_value k test value) z
last_upto test value m (suc n) h fails =
    ⊎_elim (λ e. ap (λ (k : ℕ). last_value k test value) (sym e))
    (λ d. cond-false (test n) _ _ (fails n (omega arith) (omega arith)) ∙ last_upto test value m n (omega arith) (λ k l u. fails k l (omega arith)))
    (cases_eq m (suc n))

-- where the steps below k end: at the start of index k, or at the end of the row
abbrev pub bound : List ℕ → ℕ → ℕ
bound starts k = get_or starts k 1025

-- what stands before the steps are written: 0 from the first start on
abbrev pub flat : List ℕ → ℕ → Option ℤ
flat starts = with_readings (bound starts 0) 1025 (pos 0) blank

none_either_way : (b : Bool) → cond {A = Option ℤ} b None None ≡ None
none_either_way true = refl
none_either_way false = refl

module _ (starts : List ℕ) (values : List ℤ) (ordered : first_where (length starts) (out_of_order (start_of starts)) ≡ None) where
  ok : (k : ℕ) → k < length starts → out_of_order (start_of starts) k ≡ false
  ok = first_none (out_of_order (start_of starts)) (length starts) ordered

  bound_in : (k : ℕ) → k < length starts → bound starts k ≡ start_of starts k
  bound_in k h = get_or_default_zero starts k 1025 h

  bound_past : (k : ℕ) → length starts ≤ k → bound starts k ≡ 1025
  bound_past k h = get_or_past starts k 1025 h

  pub bound_most : (k : ℕ) → bound starts k ≤ 1025
  bound_most k =
      ⊎_elim (λ (l : k < length starts). let m = station_most (start_of starts) k (ok k l) in omega (arith, bound_in k l))
      (λ (g : length starts ≤ k). omega (arith, bound_past k g)) (cases_lt k (length starts))

  pub bound_above : (k : ℕ) → k < length starts → start_of starts k < bound starts (k + 1)
  bound_above k h =
      ⊎_elim (λ (l : k + 1 < length starts). let r = rising (start_of starts) (length starts) ok k (k + 1) (omega arith) l in omega (arith, bound_in (k + 1) l))
      (λ (g : length starts ≤ k + 1). let m = station_most (start_of starts) k (ok k h) in omega (arith, bound_past (k + 1) g)) (cases_lt (k + 1) (length starts))

  -- the starts from k on are above a station below the bound of k
  later : (k s : ℕ) → s < bound starts k → (i : ℕ) → k ≤ i → i < length starts → leb (start_of starts i) s ≡ false
  later k s h i low high =
      lt-leb (start_of starts i) s
      (⊎_elim (λ (e : k ≡ i). let b = bound_in i high in let same : bound starts k ≡ bound starts i = ap (bound starts) e in omega arith)
      (λ d. let b = bound_in k (omega arith) in let r = rising (start_of starts) (length starts) ok k i (omega arith) high in omega arith) (cases_eq k i))

  -- no reading below the first start
  step_before : (s : ℕ) → s < bound starts 0 → step_at starts values s ≡ None
  step_before s l =
      ap (λ (o : Option ℤ). cond (leb s 1024) o None) (last_upto (λ i. leb (start_of starts i) s) (value_of values) 0 (length starts) (omega arith) (later 0 s l))
      ∙ none_either_way (leb s 1024)

  flat_above : (s : ℕ) → bound starts 0 ≤ s → s < 1025 → flat starts s ≡ Some (pos 0)
  flat_above s low high = rw (le-leb (bound starts 0) s low, lt-ltb s 1025 high) refl

  flat_beyond : (s : ℕ) → 1025 ≤ s → flat starts s ≡ None
  flat_beyond s h = let m = bound_most 0 in rw (le-leb (bound starts 0) s (omega arith), le-ltb s 1025 h) refl

  pub written_first : (s : ℕ) → flat starts s ≡ cond (ltb s (bound starts 0)) (step_at starts values s) (flat starts s)
  written_first s =
      ⊎_elim
      (λ (l : s < bound starts 0). sym (cond-true (ltb s (bound starts 0)) (step_at starts values s) (flat starts s) (lt-ltb s (bound starts 0) l) ∙ step_before s l
      ∙ sym (cond-false (leb (bound starts 0) s && ltb s 1025) (Some (pos 0)) None (rw (lt-leb (bound starts 0) s l) refl))))
      (λ (g : bound starts 0 ≤ s). sym (cond-false (ltb s (bound starts 0)) (step_at starts values s) (flat starts s) (le-ltb s (bound starts 0) g))) (cases_lt s (bound starts 0))

  -- from the start of index k on a reading stands before that step is written
  pub stands : (k : ℕ) → k < length starts → (f : ℕ → Option ℤ) → ((s : ℕ) → f s ≡ cond (ltb s (bound starts k)) (step_at starts values s) (flat starts s))
      → (s : ℕ) → start_of starts k ≤ s → s < bound starts (k + 1) → f s ≡ Some (pos 0)
  stands k h f before s low high =
      let b = bound_in k h in
      let m = bound_most (k + 1) in
      let first : bound starts 0 ≤ start_of starts k =
      ⊎_elim (λ (e : 0 ≡ k). let same : bound starts 0 ≡ bound starts k = ap (bound starts) e in omega arith)
      (λ d. let z = bound_in 0 (omega arith) in let r = rising (start_of starts) (length starts) ok 0 k (omega arith) h in omega arith) (cases_eq 0 k) in
      before s ∙ cond-false (ltb s (bound starts k)) _ _ (le-ltb s (bound starts k) (omega arith)) ∙ flat_above s (omega arith) (omega arith)

  -- at a station of the step k its value holds
  step_is : (k s : ℕ) → k < length starts → start_of starts k ≤ s → s < bound starts (k + 1) → step_at starts values s ≡ Some (value_of values k)
  step_is k s h low high =
      cond-true (leb s 1024) _ None (let m = bound_most (k + 1) in le-leb s 1024 (omega arith))
      ∙ last_upto (λ i. leb (start_of starts i) s) (value_of values) (suc k) (length starts) (omega arith) (λ i l u. later (k + 1) s high i (omega arith) u)
      ∙ cond-true (leb (start_of starts k) s) _ _ (le-leb (start_of starts k) s low)

  -- one step more
  pub written_more : (k : ℕ) → k < length starts → (f g : ℕ → Option ℤ) → g ≡ with_readings (start_of starts k) (bound starts (k + 1)) (value_of values k) f
      → ((s : ℕ) → f s ≡ cond (ltb s (bound starts k)) (step_at starts values s) (flat starts s)) → (s : ℕ) → g s ≡ cond (ltb s (bound starts (k + 1))) (step_at starts values s) (flat starts s)
  written_more k h f g put before s =
      ap (λ (q : ℕ → Option ℤ). q s) put
      ∙ ⊎_elim
      (λ (l : s < start_of starts k). let m = bound_above k h in
      rw (lt-leb (start_of starts k) s l) (before s ∙ rw (bound_in k h, lt-ltb s (start_of starts k) l, lt-ltb s (bound starts (k + 1)) (omega arith)) refl))
      (λ (low : start_of starts k ≤ s). ⊎_elim
      (λ (l : s < bound starts (k + 1)). rw (le-leb (start_of starts k) s low, lt-ltb s (bound starts (k + 1)) l) (sym (step_is k s h low l)))
      (λ (u : bound starts (k + 1) ≤ s). rw (le-ltb s (bound starts (k + 1)) u, le-leb (start_of starts k) s low) (before s ∙ rw (bound_in k h, le-ltb s (start_of starts k) low) refl))
      (cases_lt s (bound starts (k + 1))))
      (cases_lt s (start_of starts k))

  pub written_all : (k : ℕ) → length starts ≤ k → (f : ℕ → Option ℤ) → ((s : ℕ) → f s ≡ cond (ltb s (bound starts k)) (step_at starts values s) (flat starts s)) → (s : ℕ) → f s ≡ step_at starts values s
  written_all k h f written s =
      written s
      ∙ ⊎_elim (λ (l : s < bound starts k). cond-true (ltb s (bound starts k)) _ (flat starts s) (lt-ltb s (bound starts k) l))
      (λ (g : bound starts k ≤ s). cond-false (ltb s (bound starts k)) _ (flat starts s) (le-ltb s (bound starts k) g) ∙ flat_beyond s (omega (arith, bound_past k h)) ∙ sym (cond-false (leb s 1024) _ None (lt-leb s 1024 (omega (arith, bound_past k h)))))
      (cases_lt s (bound starts k))

-- a reading of a step table is one of its values
pub step_in_range : (starts : List ℕ) (values : List ℤ) → ((k : ℕ) → k < length starts → InRange (value_of values k)) → (s : ℕ) (v : ℤ) → step_at starts values s ≡ Some v → InRange v
step_in_range starts values ok s v e = found (leb s 1024) e
  where
    found : (b : Bool) → cond b (last_value (length starts) (λ i. leb (start_of starts i) s) (value_of values)) None ≡ Some v → InRange v
    found true h = value_in_range (length starts) (λ i. leb (start_of starts i) s) (value_of values) ok v h
    found false h = cc
