-- A search for the first index at which a test holds, by a loop or by the library's methods.
use Rattle.std.proofs.Common.{◌≡◌, ℕ, zero, suc, ◌+◌, ◌<◌, ◌≤◌, Bool, true, false, cond, List, length, get_or, Some, None, Option, sym, refl, ap, ◌∙◌, subst, ⊎_elim, add-one, arith}
use Rattle.std.specs.Bool.{⊤}
use Rattle.std.specs.Fn.{Called, CalledAt}
use Rattle.std.specs.Iterator.{YieldsThen}
use Rattle.std.specs.List.{FoldsTo, AllWithin, HoldsAt}
use Rattle.std.specs.Option.{MatchOption}
use Rattle.std.proofs.iter.Yields.{nat_range_steps}
use Rattle.std.proofs.lemmas.Bool.{cases_eq}
use Rattle.std.proofs.lemmas.Iterator.{YieldsList, IsFirst-from_position, first_from_Range}
use Rattle.sources.specs.Searches.{first_where, or_else}
use denote.Param.Members.{Mut}
use denote.Ref.{Bor}

-- one index more that passes
pub first_more : (test : ℕ → Bool) (i : ℕ) → first_where i test ≡ None → test i ≡ false → first_where (i + 1) test ≡ None
first_more test i none passes = rw (add-one, none, passes) refl

-- the search ends at the first index that does not
pub first_found : (test : ℕ → Bool) (i n : ℕ) → first_where i test ≡ None → test i ≡ true → i < n → first_where n test ≡ Some i
first_found test i zero none holds h = absurd (omega arith)
first_found test i (suc n) none holds h =
    ⊎_elim (λ e. at_last e) (λ d. ap (λ (o : Option ℕ). or_else o (cond (test n) (Some n) None)) (first_found test i n none holds (omega arith)))
    (cases_eq i n)
  where
    at_last : i ≡ n → first_where (suc n) test ≡ Some i
    at_last e = subst (λ (m : ℕ). first_where (suc m) test ≡ Some i) e (rw (none, holds) refl)

both_none : (o p : Option ℕ) → or_else o p ≡ None → (o ≡ None) × (p ≡ None)
both_none (Some i) p e = cc
both_none None p e = (refl, e)

not_held : (b : Bool) (i : ℕ) → ◌≡◌ {A = Option ℕ} (cond b (Some i) None) None → b ≡ false
not_held true i e = cc
not_held false i e = refl

-- where nothing is found, every index passes
pub first_none : (test : ℕ → Bool) (n : ℕ) → first_where n test ≡ None → (k : ℕ) → k < n → test k ≡ false
first_none test zero none k h = absurd (omega arith)
first_none test (suc n) none k h =
    let p = both_none (first_where n test) (cond (test n) (Some n) None) none in
    ⊎_elim (λ e. ap test e ∙ not_held (test n) n p.1) (λ d. first_none test n p.0 k (omega arith)) (cases_eq k n)

-- where every index passes, nothing is found
none_found : (test : ℕ → Bool) (n : ℕ) → ((k : ℕ) → k < n → test k ≡ false) → first_where n test ≡ None
none_found test zero passes = refl
none_found test (suc n) passes = rw (none_found test n (λ k h. passes k (omega arith)), passes n (omega arith)) refl

pub first_is : (test : ℕ → Bool) (n : ℕ) (r : Option ℕ) → MatchOption r ((k : ℕ) → 0 ≤ k → k < n → test k ≡ false) (λ i. (0 ≤ i) × (i < n) × (test i ≡ true) × ((k : ℕ) → 0 ≤ k → k < i → test k ≡ false)) → r ≡ first_where n test
first_is test n None none = sym (none_found test n (λ k h. none k (omega arith) h))
first_is test n (Some i) found =
    sym (first_found test i n (none_found test i (λ k h. found.3 k (omega arith) h)) found.2 found.1)

-- `find` over the numbers below n, by a closure that computes the test
pub find_is : {F : Type 0} {g : Mut F (Bor ℕ × Unit {0}) Bool} (test : ℕ → Bool) (n : ℕ) (u : _) (f : F) (r : Option ℕ) → (xs : List ℕ) × (j : F) × YieldsThen nat_range_steps (record { start = 0; end = n }) xs r u × FoldsTo (λ p x q. CalledAt g p x false q) f xs j × MatchOption r ⊤ (λ x. (h : F) × CalledAt g j x true h) → ((x : ℕ) (b : Bool) (q : F) → CalledAt g f x b q → (q ≡ f) × (b ≡ test x)) → r ≡ first_where n test
find_is test n u f r ran computes =
    first_is test n r
    (first_from_Range (record { start = 0; end = n }) u f r (λ i. test i ≡ true) (λ i. test i ≡ false) ran
    (λ x q k. sym (computes x true q k).1)
    (λ x q k. ((computes x false q k).0, sym (computes x false q k).1)))

-- `position` in a list, by a closure that computes the test of an element
pub position_is : {S A F X : Type 0} {steps : S → Option A → S → Type 0} {v : A → X} {g : Mut F (A × Unit {0}) Bool} {s : S} {all : List X} (d : X) (test : X → Bool) (u : S) (f : F) (r : Option ℕ) → (xs : List A) × (o : Option A) × (j : F) × YieldsThen steps s xs o u × FoldsTo (λ p x q. Called g p (x, tt) false q) f xs j × MatchOption o (r ≡ None) (λ x. (r ≡ Some (length xs)) × ((h : F) × Called g j (x, tt) true h)) → YieldsList steps v s all → ((x : A) (b : Bool) (q : F) → Called g f (x, tt) b q → (q ≡ f) × (b ≡ test (v x))) → r ≡ first_where (length all) (λ i. test (get_or all i d))
position_is {v} {all} d test u f r ran yields computes =
    go r
    (IsFirst-from_position u f r (λ y. test y ≡ true) (λ y. test y ≡ false) ran yields
    (λ x q k. sym (computes x true q k).1)
    (λ x q k. ((computes x false q k).0, sym (computes x false q k).1)))
  where
    go : (r : Option ℕ) → MatchOption r (AllWithin (λ y. test y ≡ false) all 0 (length all)) (λ i. (i < length all) × HoldsAt (λ y. test y ≡ true) all i × AllWithin (λ y. test y ≡ false) all 0 i) → r ≡ first_where (length all) (λ i. test (get_or all i d))
    go None none = first_is (λ i. test (get_or all i d)) (length all) None (λ k l h. none k d l h)
    go (Some i) found =
        first_is (λ i. test (get_or all i d)) (length all) (Some i)
        (omega arith, found.0, found.1 d, λ k l h. found.2 k d l h)
