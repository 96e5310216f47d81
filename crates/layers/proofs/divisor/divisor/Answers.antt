use Rattle.std.proofs.Common.{◌≡◌, ℕ, zero, suc, ◌+◌, ℤ, nat_abs, sym, ap, ◌∙◌, add-zero, add-one, arith, refl, rules}
use Rattle.std.proofs.lemmas.Iterator.{YieldsList-from_range}
use Rattle.std.proofs.lemmas.Iterator.Consumers.{fold_from_yields_List}
use Rattle.std.specs.List.{fold, range_with_len}
use Rattle.algebra.specs.Divisors.{gcd, common_divisor}
use Rattle.algebra.proofs.Divisors.{common_divisor_bounded, common_divisor_positive}
use Rattle.layers.proofs.divisor.divisor.Goals as goal

-- the divisor of the stations before a, carried over n more
carried_on : (D : ℕ) (W : ℕ → ℤ) (a n : ℕ) → fold (λ g s. gcd g (nat_abs (W s))) (common_divisor D a W) (range_with_len a n) ≡ common_divisor D (a + n) W
carried_on D W a zero = ap (λ t. common_divisor D t W) (sym (add-zero a))
carried_on D W a (suc n) =
    ap (λ t. fold (λ g s. gcd g (nat_abs (W s))) (common_divisor D (suc a) W) (range_with_len t n)) (add-one a)
    ∙ carried_on D W (suc a) n ∙ ap (λ t. common_divisor D t W) (omega arith)

pub returns : goal.returns
returns g c =
    let m = g.R.Rule.meaning c.args.below.now in
    let sound = g.met.R.Rule.sound c.args.below.now in
    let D = m.weighting.denominator in
    let W = m.weighting.weight in
    let folded : c.fold.result ≡ fold (λ x s. gcd x (nat_abs (W s))) c.denominator.result (range_with_len 0 (c.span.result + 1)) =
    fold_from_yields_List _ (λ x s. gcd x (nat_abs (W s))) c.denominator.result c.fold.result c.fold.ensures.ran (YieldsList-from_range 0 (c.span.result + 1) (c.span.result + 1) refl (omega arith)) (λ x s r f called. search rules) in
    let all : 0 + (c.span.result + 1) ≡ suc m.span = omega (arith, c.span.ensures) in
    let is : c.fold.result ≡ common_divisor D (suc m.span) W = folded ∙ ap (λ t. fold (λ x s. gcd x (nat_abs (W s))) t (range_with_len 0 (c.span.result + 1))) c.denominator.ensures ∙ carried_on D W 0 (c.span.result + 1) ∙ ap (λ t. common_divisor D t W) all in
    record {
      value = is;
      least = omega (arith, is, common_divisor_positive D (suc m.span) W sound.denominator.least);
      most = omega (arith, is, common_divisor_bounded D (suc m.span) W sound.denominator.least, sound.denominator.most);
    }
