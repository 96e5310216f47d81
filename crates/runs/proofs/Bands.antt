-- What it means that two bands are apart.
use Rattle.std.proofs.Common.{◌≡◌, ℕ, ◌≤◌, true, false, ℤ, pos, ◌+ℤ◌, ◌-ℤ◌, ◌*ℤ◌, ◌≤ℤ◌, ◌<ℤ◌, sym, refl, ap, ◌∙◌, ⊎_elim, arith}
use lib.IntN.{*ℤ_comm}
use borrow.Author.Differences.{ints, lt-true, lt-false, at_most_in, below_in}
use Rattle.std.proofs.lemmas.Bool.{or_cases, or_parts}
use Rattle.std.proofs.lemmas.Int.{by_lt_z}
use Rattle.algebra.proofs.Integers.{*ℤ_distl, *ℤ_assoc}
use Rattle.algebra.proofs.Absolute.{◌≤∙◌, ≤ℤ_of_eq, ≤ℤ_scale}
use Rattle.runs.specs.declared.estimate.Estimate.{Estimate}
use Rattle.runs.specs.Fractions.{Fraction, below, at_most}
use Rattle.runs.specs.Verdicts.{low_end, high_end, shared, bands_apart}

-- two factors change places
turn : (x : ℤ) (a b : ℕ) → pos a *ℤ (x *ℤ pos b) ≡ pos b *ℤ (x *ℤ pos a)
turn x a b =
    *ℤ_comm (pos a) (x *ℤ pos b) ∙ *ℤ_assoc x (pos b) (pos a) ∙ ap (λ (t : ℤ). x *ℤ t) (*ℤ_comm (pos b) (pos a)) ∙ sym (*ℤ_assoc x (pos a) (pos b)) ∙ *ℤ_comm (x *ℤ pos a) (pos b)

-- h/D < l/E leaves no n/d with n/d ≤ h/D and l/E ≤ n/d
none_between : (n h l : ℤ) (d D E : ℕ) → 1 ≤ d → (n *ℤ pos D) ≤ℤ (h *ℤ pos d) → (l *ℤ pos d) ≤ℤ (n *ℤ pos E) → (h *ℤ pos E) <ℤ (l *ℤ pos D) → ⊥
none_between n h l d D E some up down gap =
    clash (pos d *ℤ (h *ℤ pos E)) d some (
    wide ≤∙ (≤ℤ_of_eq (turn l d D) ≤∙ (≤ℤ_scale D down ≤∙ (≤ℤ_of_eq (turn n D E) ≤∙ (≤ℤ_scale E up ≤∙ ≤ℤ_of_eq (turn h E d)))))
    )
  where
    clash : (s : ℤ) (k : ℕ) → 1 ≤ k → (s +ℤ pos k) ≤ℤ s → ⊥
    clash s k l h = omega (arith, ints)

    next : (x y : ℤ) → x <ℤ y → (x +ℤ pos 1) ≤ℤ y
    next x y h = omega (arith, ints)

    wide : ((pos d *ℤ (h *ℤ pos E)) +ℤ pos d) ≤ℤ (pos d *ℤ (l *ℤ pos D))
    wide =
        ≤ℤ_of_eq (sym (*ℤ_distl (pos d) (h *ℤ pos E) (pos 1) ∙ ap (λ (k : ℕ). (pos d *ℤ (h *ℤ pos E)) +ℤ pos k) (omega arith)))
        ≤∙ ≤ℤ_scale d (next (h *ℤ pos E) (l *ℤ pos D) gap)

below_true : (x y : Fraction) → below x y ≡ true → (x.numerator *ℤ pos y.denominator) <ℤ (y.numerator *ℤ pos x.denominator)
below_true x y e = below_in (x.numerator *ℤ pos y.denominator) (y.numerator *ℤ pos x.denominator) (lt-true (x.numerator *ℤ pos y.denominator) (y.numerator *ℤ pos x.denominator) e)

below_false : (x y : Fraction) → below x y ≡ false → at_most y x
below_false x y e = at_most_in (y.numerator *ℤ pos x.denominator) (x.numerator *ℤ pos y.denominator) (lt-false (x.numerator *ℤ pos y.denominator) (y.numerator *ℤ pos x.denominator) e)

-- bands that are apart share no number
pub apart_none : (e f : Estimate) → bands_apart e f ≡ true → shared e f → ⊥
apart_none e f apart s =
    let x = s.0 in
    ⊎_elim
    (λ b. none_between x.numerator (high_end e).numerator (low_end f).numerator x.denominator e.value.1 f.value.1 s.1 s.2.1 s.3.0 (below_true (high_end e) (low_end f) b))
    (λ b. none_between x.numerator (high_end f).numerator (low_end e).numerator x.denominator f.value.1 e.value.1 s.1 s.3.1 s.2.0 (below_true (high_end f) (low_end e) b))
    (or_cases (below (high_end e) (low_end f)) (below (high_end f) (low_end e)) apart)

-- a band is not empty
within_own : (n r : ℤ) (d : ℕ) → pos 0 ≤ℤ r → ((n -ℤ r) *ℤ pos d) ≤ℤ ((n +ℤ r) *ℤ pos d)
within_own n r d h =
    ≤ℤ_of_eq (*ℤ_comm (n -ℤ r) (pos d)) ≤∙ (≤ℤ_scale d (wider n r h) ≤∙ ≤ℤ_of_eq (*ℤ_comm (pos d) (n +ℤ r)))
  where
    wider : (n r : ℤ) → pos 0 ≤ℤ r → (n -ℤ r) ≤ℤ (n +ℤ r)
    wider n r h = omega (arith, ints)

same_at_most : (x : Fraction) → at_most x x
same_at_most x = ≤ℤ_of_eq refl

-- bands that are not share the greater of their low ends
pub meet_some : (e f : Estimate) → 1 ≤ e.value.1 → 1 ≤ f.value.1 → pos 0 ≤ℤ e.radius → pos 0 ≤ℤ f.radius → bands_apart e f ≡ false → shared e f
meet_some e f le lf re rf apart =
    let parts = or_parts (below (high_end e) (low_end f)) (below (high_end f) (low_end e)) apart in
    let first : at_most (low_end f) (high_end e) = below_false (high_end e) (low_end f) parts.0 in
    let second : at_most (low_end e) (high_end f) = below_false (high_end f) (low_end e) parts.1 in
    by_lt_z ((low_end e).numerator *ℤ pos f.value.1) ((low_end f).numerator *ℤ pos e.value.1)
    (λ l. (low_end f, lf, (weaker ((low_end e).numerator *ℤ pos f.value.1) ((low_end f).numerator *ℤ pos e.value.1) l, first), (same_at_most (low_end f), within_own f.value.0 f.radius f.value.1 rf)))
    (λ g. (low_end e, le, (same_at_most (low_end e), within_own e.value.0 e.radius e.value.1 re), (g, second)))
  where
    weaker : (x y : ℤ) → x <ℤ y → x ≤ℤ y
    weaker x y h = omega (arith, ints)
