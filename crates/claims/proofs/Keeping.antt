-- The ledger and the replies after a list of calls, and what a person who reads the list knows of the ledger.
use Rattle.std.proofs.Common.{◌≡◌, ℕ, zero, suc, ◌≤◌, max, Bool, true, cond, eqb, leb, ◌⊎◌, List, [], ◌∷◌, ◌++◌, length, take, ℤ, Some, None, Option, sym, refl, ap, ◌∙◌, subst, subst₂, inl, inr, append_assoc, append-nil, arith}
use Rattle.rules.specs.Meaning.{Meaning}
use Rattle.rules.specs.declared.fault.Fault.{Fault}
use Rattle.sources.specs.Readings.{Readings}
use Rattle.runs.specs.Changes.{or_kept}
use Rattle.runs.specs.Ledger.{Entry, Ledger, answer, asking, blank, changed, declaring, entering, loading, publishing, refusal, step, striking, unless_refused}
use Rattle.claims.specs.Histories.{Accepted, Declares, Kept, LastWrite, NoneOf, PublishedIn, ToleranceKept, ledger_after, ledger_from, replies_from, replies_to, writes, written}

-- one list of calls after another
pub ledger_append : (m : Meaning) (l : Ledger) (xs ys : List Entry) → ledger_from m l (xs ++ ys) ≡ ledger_from m (ledger_from m l xs) ys
ledger_append m l [] ys = refl
ledger_append m l (x ∷ xs) ys = ledger_append m (step m l x) xs ys

pub replies_append : (m : Meaning) (l : Ledger) (xs ys : List Entry) → replies_from m l (xs ++ ys) ≡ replies_from m l xs ++ replies_from m (ledger_from m l xs) ys
replies_append m l [] ys = refl
replies_append m l (x ∷ xs) ys = ap (λ rs. answer m l x ∷ rs) (replies_append m (step m l x) xs ys)

-- one reply for each call
pub replies_length : (m : Meaning) (l : Ledger) (es : List Entry) → length (replies_from m l es) ≡ length es
replies_length m l [] = refl
replies_length m l (e ∷ es) = ap suc (replies_length m (step m l e) es)

-- a reply does not depend on the calls that come later
prefix_from : (m : Meaning) (l : Ledger) (n : ℕ) (es : List Entry) → take n (replies_from m l es) ≡ replies_from m l (take n es)
prefix_from m l zero es = refl
prefix_from m l (suc n) [] = refl
prefix_from m l (suc n) (e ∷ es) = ap (λ rs. answer m l e ∷ rs) (prefix_from m (step m l e) n es)

pub replies_prefix : (m : Meaning) (es : List Entry) (n : ℕ) → take n (replies_to m es) ≡ replies_to m (take n es)
replies_prefix m es n = prefix_from m blank n es

-- an induction over lists that are built from their end
from_end : (P : List Entry → Type 0) → ((xs : List Entry) (e : Entry) → P xs → P (xs ++ (e ∷ []))) → (done rest : List Entry) → P done → P (done ++ rest)
from_end P more done [] p = subst P (sym (append-nil done)) p
from_end P more done (e ∷ es) p = subst P (append_assoc done (e ∷ []) es) (from_end P more (done ++ (e ∷ [])) es (more done e p))

-- the empty list holds nothing
pub no_split : {A : Type 0} (xs : List A) (e : A) (ys : List A) → [] ≡ xs ++ (e ∷ ys) → ⊥
no_split [] e ys p = cc
no_split (x ∷ xs) e ys p = cc

-- a call of `xs` followed by e is that e, or one of `xs`
cut : (xs : List Entry) (e : Entry) (before : List Entry) (call : Entry) (later : List Entry) → xs ++ (e ∷ []) ≡ before ++ (call ∷ later) →
    ((later ≡ []) × (call ≡ e) × (before ≡ xs)) ⊎ ((rest : List Entry) × (later ≡ rest ++ (e ∷ [])) × (xs ≡ before ++ (call ∷ rest)))
cut [] e [] call later split = inl (cc, cc, refl)
cut [] e (b ∷ bs) call later split = absurd (no_split bs call later (cc))
cut (x ∷ xs) e [] call later split = inr (xs, cc, cc)
cut (x ∷ xs) e (b ∷ bs) call later split =
    let same : x ≡ b = cc in
    elim (cut xs e bs call later (cc)) [
      | inl c ↦ inl (c.0, c.1, let tail : bs ≡ xs = c.2 in cc)
      | inr c ↦ inr (c.0, c.1, let tail : xs ≡ bs ++ (call ∷ c.0) = c.2 in cc)
    ]

-- among no calls
none_at_first : (m : Meaning) (P : Entry → Type 0) (before : List Entry) → NoneOf m P before []
none_at_first m P before xs ys e split accepted p = no_split xs e ys split

-- one more call
none_more : (m : Meaning) (P : Entry → Type 0) (before later : List Entry) (e : Entry) → NoneOf m P before later → (Accepted m (before ++ later) e → P e → ⊥) → NoneOf m P before (later ++ (e ∷ []))
none_more m P before later e none here xs ys call split accepted p =
    elim (cut later e xs call ys split) [
      | inl c ↦ here (subst₂ (λ t. Accepted m (before ++ t)) c.2 c.1 accepted) (subst P c.1 p)
      | inr c ↦ none xs c.0 call c.2 accepted p
    ]

-- one call less
none_less : (m : Meaning) (P : Entry → Type 0) (before later : List Entry) (e : Entry) → NoneOf m P before (later ++ (e ∷ [])) → NoneOf m P before later
none_less m P before later e none xs ys call split = none xs (ys ++ (e ∷ [])) call (ap (λ t. t ++ (e ∷ [])) split ∙ append_assoc xs (call ∷ ys) (e ∷ []))

-- what is written over a reading
abbrev written_over : Option (Option ℤ) → Option ℤ → Option ℤ
written_over (Some w) old = w
written_over None old = old

put_over : (b : Bool) (w old : Option ℤ) → cond b w old ≡ written_over (cond b (Some w) None) old
put_over b w old = grind arith

load_over : (b : Bool) (told old : Option ℤ) → cond b (or_kept told old) old ≡ written_over (cond b (written told) None) old
load_over b told old = grind arith

-- an accepted call writes what `writes` says, and no more
changed_reading : (m : Meaning) (l : Ledger) (e : Entry) (s : ℕ) → (changed m l e).readings.reading s ≡ written_over (writes m e s) (l.readings.reading s)
changed_reading m l (entering k v) s = put_over (eqb s k) (Some v) (l.readings.reading s)
changed_reading m l (striking k) s = put_over (eqb s k) None (l.readings.reading s)
changed_reading m l (declaring t) s = refl
changed_reading m l (loading source) s = load_over (leb s m.span) (source.reading s) (l.readings.reading s)
changed_reading m l publishing s = refl
changed_reading m l asking s = refl

-- a publication lasts, and nothing else publishes
stays_published : (m : Meaning) (l : Ledger) (e : Entry) → l.published ≡ true → (changed m l e).published ≡ true
stays_published m l (entering k v) p = p
stays_published m l (striking k) p = p
stays_published m l (declaring t) p = p
stays_published m l (loading source) p = p
stays_published m l publishing p = refl
stays_published m l asking p = p

newly_published : (m : Meaning) (l : Ledger) (e : Entry) → (changed m l e).published ≡ true → (e ≡ publishing) ⊎ (l.published ≡ true)
newly_published m l (entering k v) p = inr p
newly_published m l (striking k) p = inr p
newly_published m l (declaring t) p = inr p
newly_published m l (loading source) p = inr p
newly_published m l publishing p = inl refl
newly_published m l asking p = inr p

-- a declaration or a load, the calls that set the tolerance
abbrev Sets : Entry → Type 0
Sets (entering k v) = ⊥
Sets (striking k) = ⊥
Sets (declaring t) = Unit {0}
Sets (loading source) = Unit {0}
Sets publishing = ⊥
Sets asking = ⊥

module _ (m : Meaning) (xs : List Entry) (e : Entry) where
  -- the last write is still the last if e leaves the station alone
  write_kept : (s : ℕ) (w : Option ℤ) → LastWrite m xs s w → (Accepted m xs e → writes m e s ≡ None) → LastWrite m (xs ++ (e ∷ [])) s w
  write_kept s w old alone = record {
    before = old.before;
    call = old.call;
    later = old.later ++ (e ∷ []);
    split = ap (λ t. t ++ (e ∷ [])) old.split ∙ append_assoc old.before (old.call ∷ old.later) (e ∷ []);
    accepted = old.accepted;
    wrote = old.wrote;
    last = none_more m (λ c. writes m c s ≡ None → ⊥) (old.before ++ (old.call ∷ [])) old.later e old.last
        (λ a touched. touched (alone (subst (λ t. Accepted m t e) (append_assoc old.before (old.call ∷ []) old.later ∙ sym old.split) a)));
  }

  -- the last write is by e, or was the last before e, which does not write there if accepted
  write_before : (s : ℕ) (w : Option ℤ) → LastWrite m (xs ++ (e ∷ [])) s w →
      (Accepted m xs e × (writes m e s ≡ Some w)) ⊎ (LastWrite m xs s w × (Accepted m xs e → (writes m e s ≡ None → ⊥) → ⊥))
  write_before s w now =
      elim (cut xs e now.before now.call now.later now.split) [
        | inl c ↦ inl (subst₂ (Accepted m) c.2 c.1 now.accepted, ap (λ t. writes m t s) (sym c.1) ∙ now.wrote)
        | inr c ↦
            let P : Entry → Type 0 = λ call. writes m call s ≡ None → ⊥ in
            let start : List Entry = now.before ++ (now.call ∷ []) in
            let last : NoneOf m P start (c.0 ++ (e ∷ [])) = subst (NoneOf m P start) c.1 now.last in
            inr (
              record {
                before = now.before;
                call = now.call;
                later = c.0;
                split = c.2;
                accepted = now.accepted;
                wrote = now.wrote;
                last = none_less m P start c.0 e last;
              },
              λ a. last c.0 [] e refl (subst (λ t. Accepted m t e) (c.2 ∙ sym (append_assoc now.before (now.call ∷ []) c.0)) a),
            )
      ]

  -- the same of a publication
  published_kept : PublishedIn m xs → PublishedIn m (xs ++ (e ∷ []))
  published_kept old = record {
    before = old.before;
    later = old.later ++ (e ∷ []);
    split = ap (λ t. t ++ (e ∷ [])) old.split ∙ append_assoc old.before (publishing ∷ old.later) (e ∷ []);
    accepted = old.accepted;
  }

  published_before : PublishedIn m (xs ++ (e ∷ [])) → (Accepted m xs e × (publishing ≡ e)) ⊎ PublishedIn m xs
  published_before now =
      elim (cut xs e now.before publishing now.later now.split) [
        | inl c ↦ inl (subst₂ (Accepted m) c.2 c.1 now.accepted, c.1)
        | inr c ↦ inr (record { before = now.before; later = c.0; split = c.2; accepted = now.accepted })
      ]

  -- the tolerance t, which is the one before or the greater one that e loads
  tolerance_more : (old t : ℕ) → ToleranceKept m xs old → (Accepted m xs e → Declares e → ⊥) → old ≤ t → ((source : Readings) → Accepted m xs e → loading source ≡ e → source.tolerance ≤ t) →
      (t ≡ old) ⊎ ((source : Readings) × (loading source ≡ e) × Accepted m xs e × (source.tolerance ≡ t)) → ToleranceKept m (xs ++ (e ∷ [])) t
  tolerance_more old t kept undeclared greater loads which = record {
    before = kept.before;
    later = kept.later ++ (e ∷ []);
    declared = kept.declared;
    standing = record {
      split = ap (λ t. t ++ (e ∷ [])) kept.standing.split ∙ append_assoc kept.before kept.later (e ∷ []);
      declared = kept.standing.declared;
      last = none_more m Declares kept.before kept.later e kept.standing.last (λ a. undeclared (subst (λ t. Accepted m t e) (sym kept.standing.split) a));
    };
    at_least_declared = let least = kept.at_least_declared in omega arith;
    at_least_loads = λ source now.
        elim (cut kept.later e now.earlier (loading source) now.rest now.split) [
          | inl c ↦ loads source (subst₂ (Accepted m) (ap (λ t. kept.before ++ t) c.2 ∙ sym kept.standing.split) c.1 now.accepted) c.1
          | inr c ↦
              let least : source.tolerance ≤ old = kept.at_least_loads source (record { earlier = now.earlier; rest = c.0; split = c.2; accepted = now.accepted }) in
              omega arith
        ];
    one_of_them = elim which [
      | inl same ↦ elim kept.one_of_them [
        | inl declared ↦ inl (same ∙ declared)
        | inr was ↦ inr (
          was.0,
          record {
            earlier = was.1.earlier;
            rest = was.1.rest ++ (e ∷ []);
            split = ap (λ t. t ++ (e ∷ [])) was.1.split ∙ append_assoc was.1.earlier (loading was.0 ∷ was.1.rest) (e ∷ []);
            accepted = was.1.accepted;
          },
          was.2 ∙ sym same,
        )
      ]
      | inr now ↦ inr (
        now.0,
        record {
          earlier = kept.later;
          rest = [];
          split = ap (λ t. kept.later ++ (t ∷ [])) (sym now.1);
          accepted = subst₂ (Accepted m) kept.standing.split (sym now.1) now.2;
        },
        now.3,
      )
    ];
  }

  -- the same tolerance, where e does not set it
  tolerance_same : (t : ℕ) → ToleranceKept m xs t → (Accepted m xs e → Sets e → ⊥) → ToleranceKept m (xs ++ (e ∷ [])) t
  tolerance_same t kept unset =
      tolerance_more t t kept (λ a d. unset a (subst Sets (sym d.1) tt)) (omega arith) (λ source a is. absurd (unset a (subst Sets is tt))) (inl refl)

-- the greater of two numbers is one of them
greater_of : (a b : ℕ) → (max a b ≡ a) ⊎ (b ≡ max a b)
greater_of a b = grind arith

not_declaring : (source : Readings) → Declares (loading source) → ⊥
not_declaring source (t, is) = cc

-- the tolerance after an accepted call
tolerance_changed : (m : Meaning) (xs : List Entry) (l : Ledger) (e : Entry) → Accepted m xs e → ToleranceKept m xs l.readings.tolerance → ToleranceKept m (xs ++ (e ∷ [])) (changed m l e).readings.tolerance
tolerance_changed m xs l (entering k v) a kept = tolerance_same m xs (entering k v) l.readings.tolerance kept (λ _ sets. sets)
tolerance_changed m xs l (striking k) a kept = tolerance_same m xs (striking k) l.readings.tolerance kept (λ _ sets. sets)
tolerance_changed m xs l (declaring t) a kept = record {
  before = xs ++ (declaring t ∷ []);
  later = [];
  declared = t;
  standing = record {
    split = sym (append-nil (xs ++ (declaring t ∷ [])));
    declared = inr (xs, refl, a);
    last = none_at_first m Declares (xs ++ (declaring t ∷ []));
  };
  at_least_declared = omega arith;
  at_least_loads = λ source now. absurd (no_split now.earlier (loading source) now.rest now.split);
  one_of_them = inl refl;
}
tolerance_changed m xs l (loading source) a kept =
    let old : ℕ = l.readings.tolerance in
    let t : ℕ = max old source.tolerance in
    tolerance_more m xs (loading source) old t kept (λ _. not_declaring source) (omega arith)
    (λ other _ same. let is : other ≡ source = cc in let tells : other.tolerance ≡ source.tolerance = ap (λ (r : Readings). r.tolerance) is in omega arith)
    (elim (greater_of old source.tolerance) [ inl same ↦ inl same | inr is ↦ inr (source, refl, a, is) ])
tolerance_changed m xs l publishing a kept = tolerance_same m xs publishing l.readings.tolerance kept (λ _ sets. sets)
tolerance_changed m xs l asking a kept = tolerance_same m xs asking l.readings.tolerance kept (λ _ sets. sets)

-- a refused call leaves the ledger as it is
refused : (m : Meaning) (xs : List Entry) (l : Ledger) (e : Entry) → (Accepted m xs e → ⊥) → Kept m xs l → Kept m (xs ++ (e ∷ [])) l
refused m xs l e never kept = record {
  reads = λ s v is. write_kept m xs e s (Some v) (kept.reads s v is) (λ a. absurd (never a));
  reads_only = λ s v now. elim (write_before m xs e s (Some v) now) [ inl by ↦ absurd (never by.0) | inr was ↦ kept.reads_only s v was.0 ];
  tolerance = tolerance_same m xs e l.readings.tolerance kept.tolerance (λ a _. never a);
  published = λ is. published_kept m xs e (kept.published is);
  published_only = λ now. elim (published_before m xs e now) [ inl by ↦ absurd (never by.0) | inr was ↦ kept.published_only was ];
}

-- an accepted call makes its change
accepted : (m : Meaning) (xs : List Entry) (l : Ledger) (e : Entry) → Accepted m xs e → Kept m xs l → Kept m (xs ++ (e ∷ [])) (changed m l e)
accepted m xs l e a kept = record {
  reads = λ s v is. reads s v (writes m e s) refl (sym (changed_reading m l e s) ∙ is);
  reads_only = λ s v now. changed_reading m l e s ∙ elim (write_before m xs e s (Some v) now) [
    | inl by ↦ ap (λ t. written_over t (l.readings.reading s)) by.1
    | inr was ↦ untouched s v (writes m e s) refl (was.1 a) (kept.reads_only s v was.0)
  ];
  tolerance = tolerance_changed m xs l e a kept.tolerance;
  published = λ is. elim (newly_published m l e is) [
    | inl by ↦ record { before = xs; later = []; split = ap (λ t. xs ++ (t ∷ [])) by; accepted = subst (Accepted m xs) by a }
    | inr was ↦ published_kept m xs e (kept.published was)
  ];
  published_only = λ now. elim (published_before m xs e now) [
    | inl by ↦ ap (λ t. (changed m l t).published) (sym by.1)
    | inr was ↦ stays_published m l e (kept.published_only was)
  ];
}
  where
    reads : (s : ℕ) (v : ℤ) (w : Option (Option ℤ)) → writes m e s ≡ w → written_over (writes m e s) (l.readings.reading s) ≡ Some v → LastWrite m (xs ++ (e ∷ [])) s (Some v)
    reads s v (Some w) put is = record {
      before = xs;
      call = e;
      later = [];
      split = refl;
      accepted = a;
      wrote = put ∙ ap Some (ap (λ t. written_over t (l.readings.reading s)) (sym put) ∙ is);
      last = none_at_first m (λ c. writes m c s ≡ None → ⊥) (xs ++ (e ∷ []));
    }
    reads s v None put is = write_kept m xs e s (Some v) (kept.reads s v (ap (λ t. written_over t (l.readings.reading s)) (sym put) ∙ is)) (λ _. put)

    untouched : (s : ℕ) (v : ℤ) (w : Option (Option ℤ)) → writes m e s ≡ w → ((writes m e s ≡ None → ⊥) → ⊥) → l.readings.reading s ≡ Some v → written_over (writes m e s) (l.readings.reading s) ≡ Some v
    untouched s v (Some w) put untold is = absurd (untold (λ none. cc))
    untouched s v None put untold is = ap (λ t. written_over t (l.readings.reading s)) put ∙ is

-- one more call
kept_more : (m : Meaning) (xs : List Entry) (e : Entry) → Kept m xs (ledger_after m xs) → Kept m (xs ++ (e ∷ [])) (ledger_after m (xs ++ (e ∷ [])))
kept_more m xs e kept = subst (Kept m (xs ++ (e ∷ []))) (sym (ledger_append m blank xs (e ∷ []))) (go (refusal m (ledger_after m xs) e) refl)
  where
    go : (r : Option Fault) → refusal m (ledger_after m xs) e ≡ r → Kept m (xs ++ (e ∷ [])) (unless_refused r (ledger_after m xs) (changed m (ledger_after m xs) e))
    go (Some f) is = refused m xs (ledger_after m xs) e (λ a. cc) kept
    go None is = accepted m xs (ledger_after m xs) e is kept

-- before any call
kept_at_first : (m : Meaning) → Kept m [] blank
kept_at_first m = record {
  reads = λ s v is. cc;
  reads_only = λ s v now. absurd (no_split now.before now.call now.later now.split);
  tolerance = record {
    before = [];
    later = [];
    declared = 0;
    standing = record { split = refl; declared = inl (refl, refl); last = none_at_first m Declares [] };
    at_least_declared = omega arith;
    at_least_loads = λ source now. absurd (no_split now.earlier (loading source) now.rest now.split);
    one_of_them = inl refl;
  };
  published = λ is. cc;
  published_only = λ now. absurd (no_split now.before publishing now.later now.split);
}

-- the ledger after any calls is what a person would keep of them
pub kept : (m : Meaning) (es : List Entry) → Kept m es (ledger_after m es)
kept m es = from_end (λ xs. Kept m xs (ledger_after m xs)) (kept_more m) [] es (kept_at_first m)
