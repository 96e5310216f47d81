-- Identities of a commutative ring over ℤ, decided by computation: an expression is brought to a sum of monomials.
use Rattle.std.proofs.Common.{◌≡◌, ℕ, zero, suc, ◌+◌, Bool, true, false, cond, ◌&&◌, T, eqb, leb, List, [], ◌∷◌, ℤ, pos, negsuc, ◌+ℤ◌, ◌*ℤ◌, neg_ℤ, sym, refl, ap, ◌∙◌, ap₂, arith, eqb→eq}
use lib.IntN.{*ℤ_comm, *ℤ-zero, zero-*ℤ, +ℤ_idl, +ℤ_assoc}
use borrow.Author.Differences.{ints}
use Rattle.algebra.proofs.Integers.{*ℤ_distl, *ℤ_assoc, *ℤ_idl}

infixl 6 ◌⊕◌
infixl 7 ◌⊗◌
-- expressions: variables by number, numbers, sums, products and negations
pub data Ex : Type 0 where
  var : ℕ → Ex
  num : ℕ → Ex
  ◌⊕◌ : Ex → Ex → Ex
  ◌⊗◌ : Ex → Ex → Ex
  neg : Ex → Ex

unfoldable pub value : (ℕ → ℤ) → Ex → ℤ
value ρ (var i) = ρ i
value ρ (num n) = pos n
value ρ (a ⊕ b) = value ρ a +ℤ value ρ b
value ρ (a ⊗ b) = value ρ a *ℤ value ρ b
value ρ (neg a) = neg_ℤ (value ρ a)

-- sums of monomials: a coefficient and the variables in order
pub data Poly : Type 0 where
  none : Poly
  term : ℤ → List ℕ → Poly → Poly

abbrev mono_value : (ℕ → ℤ) → List ℕ → ℤ
mono_value ρ [] = pos 1
mono_value ρ (i ∷ m) = ρ i *ℤ mono_value ρ m

abbrev poly_value : (ℕ → ℤ) → Poly → ℤ
poly_value ρ none = pos 0
poly_value ρ (term c m p) = (c *ℤ mono_value ρ m) +ℤ poly_value ρ p

abbrev insert : ℕ → List ℕ → List ℕ
insert i [] = i ∷ []
insert i (j ∷ m) = cond (leb i j) (i ∷ (j ∷ m)) (j ∷ insert i m)

abbrev merge : List ℕ → List ℕ → List ℕ
merge [] n = n
merge (i ∷ m) n = insert i (merge m n)

abbrev same : List ℕ → List ℕ → Bool
same [] [] = true
same [] (j ∷ n) = false
same (i ∷ m) [] = false
same (i ∷ m) (j ∷ n) = eqb i j && same m n

abbrev add_term : ℤ → List ℕ → Poly → Poly
add_term c m none = term c m none
add_term c m (term d n p) = cond (same m n) (term (c +ℤ d) n p) (term d n (add_term c m p))

abbrev add : Poly → Poly → Poly
add none q = q
add (term c m p) q = add_term c m (add p q)

abbrev mul_term : ℤ → List ℕ → Poly → Poly
mul_term c m none = none
mul_term c m (term d n p) = term (c *ℤ d) (merge m n) (mul_term c m p)

abbrev mul : Poly → Poly → Poly
mul none q = none
mul (term c m p) q = add (mul_term c m q) (mul p q)

abbrev norm : Ex → Poly
norm (var i) = term (pos 1) (i ∷ []) none
norm (num n) = term (pos n) [] none
norm (a ⊕ b) = add (norm a) (norm b)
norm (a ⊗ b) = mul (norm a) (norm b)
norm (neg a) = mul_term (negsuc 0) [] (norm a)

abbrev is_zero : ℤ → Bool
is_zero (pos n) = eqb n 0
is_zero (negsuc n) = false

abbrev vanishes : Poly → Bool
vanishes none = true
vanishes (term c m p) = is_zero c && vanishes p

-- the steps of the normal form keep the value
left_comm : (x y m : ℤ) → x *ℤ (y *ℤ m) ≡ y *ℤ (x *ℤ m)
left_comm x y m = sym (*ℤ_assoc x y m) ∙ ap (λ t. t *ℤ m) (*ℤ_comm x y) ∙ *ℤ_assoc y x m

insert_value : (ρ : ℕ → ℤ) (i : ℕ) (m : List ℕ) → mono_value ρ (insert i m) ≡ ρ i *ℤ mono_value ρ m
insert_value ρ i [] = refl
insert_value ρ i (j ∷ m) =
    elim (leb i j) as (λ v. mono_value ρ (cond v (i ∷ (j ∷ m)) (j ∷ insert i m)) ≡ ρ i *ℤ (ρ j *ℤ mono_value ρ m)) [
      | true ↦ refl
      | false ↦ ap (λ t. ρ j *ℤ t) (insert_value ρ i m) ∙ left_comm (ρ j) (ρ i) (mono_value ρ m)
    ]

merge_value : (ρ : ℕ → ℤ) (m n : List ℕ) → mono_value ρ (merge m n) ≡ mono_value ρ m *ℤ mono_value ρ n
merge_value ρ [] n = sym (*ℤ_idl (mono_value ρ n))
merge_value ρ (i ∷ m) n =
    insert_value ρ i (merge m n)
    ∙ ap (λ t. ρ i *ℤ t) (merge_value ρ m n)
    ∙ sym (*ℤ_assoc (ρ i) (mono_value ρ m) (mono_value ρ n))

both : (a b : Bool) → T (a && b) → T a × T b
both true true t = (tt, tt)
both true false t = absurd t
both false true t = absurd t
both false false t = absurd t

same_value : (ρ : ℕ → ℤ) (m n : List ℕ) → T (same m n) → mono_value ρ m ≡ mono_value ρ n
same_value ρ [] [] t = refl
same_value ρ [] (j ∷ n) t = absurd t
same_value ρ (i ∷ m) [] t = absurd t
same_value ρ (i ∷ m) (j ∷ n) t =
    let h = both (eqb i j) (same m n) t in
    ap₂ ◌*ℤ◌ (ap ρ (eqb→eq i j h.0)) (same_value ρ m n h.1)

add_like : (c d m p : ℤ) → ((c +ℤ d) *ℤ m) +ℤ p ≡ (c *ℤ m) +ℤ ((d *ℤ m) +ℤ p)
add_like c d m p =
    ap (λ t. t +ℤ p) (*ℤ_comm (c +ℤ d) m ∙ *ℤ_distl m c d ∙ ap₂ ◌+ℤ◌ (*ℤ_comm m c) (*ℤ_comm m d))
    ∙ +ℤ_assoc (c *ℤ m) (d *ℤ m) p

add_past : (x y p : ℤ) → y +ℤ (x +ℤ p) ≡ x +ℤ (y +ℤ p)
add_past x y p = omega (arith, ints)

add_term_value : (ρ : ℕ → ℤ) (c : ℤ) (m : List ℕ) (p : Poly) → poly_value ρ (add_term c m p) ≡ (c *ℤ mono_value ρ m) +ℤ poly_value ρ p
add_term_value ρ c m none = refl
add_term_value ρ c m (term d n p) = go (same m n) (same_value ρ m n) (add_term_value ρ c m p)
  where
    go : (b : Bool) → (T b → mono_value ρ m ≡ mono_value ρ n) → poly_value ρ (add_term c m p) ≡ (c *ℤ mono_value ρ m) +ℤ poly_value ρ p → poly_value ρ (cond b (term (c +ℤ d) n p) (term d n (add_term c m p))) ≡ (c *ℤ mono_value ρ m) +ℤ ((d *ℤ mono_value ρ n) +ℤ poly_value ρ p)
    go true e r = add_like c d (mono_value ρ n) (poly_value ρ p) ∙ ap (λ t. (c *ℤ t) +ℤ ((d *ℤ mono_value ρ n) +ℤ poly_value ρ p)) (sym (e tt))
    go false e r = ap (λ t. (d *ℤ mono_value ρ n) +ℤ t) r ∙ add_past (c *ℤ mono_value ρ m) (d *ℤ mono_value ρ n) (poly_value ρ p)

add_value : (ρ : ℕ → ℤ) (p q : Poly) → poly_value ρ (add p q) ≡ poly_value ρ p +ℤ poly_value ρ q
add_value ρ none q = sym (+ℤ_idl (poly_value ρ q))
add_value ρ (term c m p) q =
    add_term_value ρ c m (add p q)
    ∙ ap (λ t. (c *ℤ mono_value ρ m) +ℤ t) (add_value ρ p q)
    ∙ sym (+ℤ_assoc (c *ℤ mono_value ρ m) (poly_value ρ p) (poly_value ρ q))

mul_like : (c d m n p : ℤ) → ((c *ℤ d) *ℤ (m *ℤ n)) +ℤ ((c *ℤ m) *ℤ p) ≡ (c *ℤ m) *ℤ ((d *ℤ n) +ℤ p)
mul_like c d m n p =
    ap (λ t. t +ℤ ((c *ℤ m) *ℤ p)) (*ℤ_assoc c d (m *ℤ n) ∙ ap (λ t. c *ℤ t) (left_comm d m n) ∙ sym (*ℤ_assoc c m (d *ℤ n)))
    ∙ sym (*ℤ_distl (c *ℤ m) (d *ℤ n) p)

mul_term_value : (ρ : ℕ → ℤ) (c : ℤ) (m : List ℕ) (p : Poly) → poly_value ρ (mul_term c m p) ≡ (c *ℤ mono_value ρ m) *ℤ poly_value ρ p
mul_term_value ρ c m none = sym (*ℤ-zero (c *ℤ mono_value ρ m))
mul_term_value ρ c m (term d n p) =
    ap₂ (λ s t. ((c *ℤ d) *ℤ s) +ℤ t) (merge_value ρ m n) (mul_term_value ρ c m p)
    ∙ mul_like c d (mono_value ρ m) (mono_value ρ n) (poly_value ρ p)

*ℤ_distr : (a b c : ℤ) → (a +ℤ b) *ℤ c ≡ (a *ℤ c) +ℤ (b *ℤ c)
*ℤ_distr a b c = *ℤ_comm (a +ℤ b) c ∙ *ℤ_distl c a b ∙ ap₂ ◌+ℤ◌ (*ℤ_comm c a) (*ℤ_comm c b)

mul_value : (ρ : ℕ → ℤ) (p q : Poly) → poly_value ρ (mul p q) ≡ poly_value ρ p *ℤ poly_value ρ q
mul_value ρ none q = sym (zero-*ℤ (poly_value ρ q))
mul_value ρ (term c m p) q =
    add_value ρ (mul_term c m q) (mul p q)
    ∙ ap₂ ◌+ℤ◌ (mul_term_value ρ c m q) (mul_value ρ p q)
    ∙ sym (*ℤ_distr (c *ℤ mono_value ρ m) (poly_value ρ p) (poly_value ρ q))

one_term : (x : ℤ) → (pos 1 *ℤ (x *ℤ pos 1)) +ℤ pos 0 ≡ x
one_term x = omega (arith, ints)

constant_term : (c : ℤ) → (c *ℤ pos 1) +ℤ pos 0 ≡ c
constant_term c = omega (arith, ints)

minus_one : (x : ℤ) → (negsuc 0 *ℤ pos 1) *ℤ x ≡ neg_ℤ x
minus_one x = omega (arith, ints)

norm_value : (ρ : ℕ → ℤ) (a : Ex) → poly_value ρ (norm a) ≡ value ρ a
unfolding value
norm_value ρ (var i) = one_term (ρ i)
norm_value ρ (num n) = constant_term (pos n)
norm_value ρ (a ⊕ b) = add_value ρ (norm a) (norm b) ∙ ap₂ ◌+ℤ◌ (norm_value ρ a) (norm_value ρ b)
norm_value ρ (a ⊗ b) = mul_value ρ (norm a) (norm b) ∙ ap₂ ◌*ℤ◌ (norm_value ρ a) (norm_value ρ b)
norm_value ρ (neg a) = mul_term_value ρ (negsuc 0) [] (norm a) ∙ minus_one (poly_value ρ (norm a)) ∙ ap neg_ℤ (norm_value ρ a)

is_zero_value : (c : ℤ) → T (is_zero c) → c ≡ pos 0
is_zero_value (pos n) t = ap pos (eqb→eq n 0 t)
is_zero_value (negsuc n) t = absurd t

vanishes_value : (ρ : ℕ → ℤ) (p : Poly) → T (vanishes p) → poly_value ρ p ≡ pos 0
vanishes_value ρ none t = refl
vanishes_value ρ (term c m p) t =
    let h = both (is_zero c) (vanishes p) t in
    ap₂ (λ u v. (u *ℤ mono_value ρ m) +ℤ v) (is_zero_value c h.0) (vanishes_value ρ p h.1) ∙ ap (λ u. u +ℤ pos 0) (zero-*ℤ (mono_value ρ m))

difference : (x y : ℤ) → x +ℤ neg_ℤ y ≡ pos 0 → x ≡ y
difference x y e = omega (arith, ints)

-- the test of an identity, and that it holds
abbrev pub Identity : Ex → Ex → Type 0
Identity a b = T (vanishes (norm (a ⊕ (neg b))))

pub identity : (ρ : ℕ → ℤ) (a b : Ex) → Identity a b → value ρ a ≡ value ρ b
unfolding value
identity ρ a b t = difference (value ρ a) (value ρ b) (sym (norm_value ρ (a ⊕ (neg b))) ∙ vanishes_value ρ (norm (a ⊕ (neg b))) t)

-- how an integer is read as an expression
pub read_add : (ρ : ℕ → ℤ) (a b : Ex) → value ρ a +ℤ value ρ b ≡ value ρ (a ⊕ b)
unfolding value
read_add ρ a b = refl

pub read_mul : (ρ : ℕ → ℤ) (a b : Ex) → value ρ a *ℤ value ρ b ≡ value ρ (a ⊗ b)
unfolding value
read_mul ρ a b = refl

pub read_neg : (ρ : ℕ → ℤ) (a : Ex) → neg_ℤ (value ρ a) ≡ value ρ (neg a)
unfolding value
read_neg ρ a = refl

pub read_num : (ρ : ℕ → ℤ) (n : ℕ) → pos n ≡ value ρ (num n)
unfolding value
read_num ρ n = refl

pub ruleset reads = (read_add, read_mul, read_neg)

abbrev at : List ℤ → ℕ → ℤ
at [] i = pos 0
at (x ∷ xs) zero = x
at (x ∷ xs) (suc i) = at xs i

abbrev pub Over : (ℕ → ℤ) → ℕ → List ℤ → Type 0 → Type 0
Over ρ i [] P = P
Over ρ i (x ∷ xs) P = x ≡ value ρ (var i) → Over ρ (suc i) xs P

given : (ρ : ℕ → ℤ) (i : ℕ) (xs : List ℤ) (P : Type 0) → ((j : ℕ) → ρ (j + i) ≡ at xs j) → Over ρ i xs P → P
unfolding value
given ρ i [] P e k = k
given ρ i (x ∷ xs) P e k = given ρ (suc i) xs P (λ j. ap ρ (omega arith) ∙ e (suc j)) (k (sym (e 0) ∙ ap ρ (omega arith)))

-- an identity over the variables x, y, .. is proved by
-- over (x ∷ y ∷ .. ∷ []) (λ ρ p q .. . simp (p, q, .., reads) (identity ρ _ _ (omega arith)))
pub over : (xs : List ℤ) {P : Type 0} → ((ρ : ℕ → ℤ) → Over ρ 0 xs P) → P
over xs {P} k = given (at xs) 0 xs P (λ j. ap (at xs) (omega arith)) (k (at xs))
