use Rattle.std.proofs.Common.{◌≡◌, ℕ, ◌*◌, ltb, ◌≢◌, pos, sym, ap, ◌∙◌, ap₂, w64, SFits, to_z, of_z, rules}
use lib.Signed.{lt_z}
use Rattle.std.proofs.lemmas.Int.{to_z-of_z}
use Rattle.std.specs.Int.{int_div_euclid}
use Rattle.runs.proofs.Comparison.{by_wholes, by_rests}
use Rattle.runs.proofs.band_end.BandEnd.is_below.Goals as goal

pub returns-then-whole-other_whole : goal.returns-then-whole-other_whole
returns-then-whole-other_whole c =
    let a = c.args.self.now in
    let b = c.args.other.now in
    let first : SFits w64 c.floor-whole.result = search rules in
    let second : SFits w64 c.floor-other_whole.result = search rules in
    let differ : int_div_euclid a.numerator (pos a.denominator) ≢ int_div_euclid b.numerator (pos b.denominator) =
    (λ e. c.if-whole-other_whole.true (ap (of_z w64) (c.floor-whole.ensures ∙ e ∙ sym c.floor-other_whole.ensures))) in
    ap₂ lt_z (to_z-of_z w64 c.floor-whole.result first ∙ c.floor-whole.ensures) (to_z-of_z w64 c.floor-other_whole.result second ∙ c.floor-other_whole.ensures)
    ∙ by_wholes a.numerator b.numerator a.denominator b.denominator a.denominator_least b.denominator_least differ

pub returns-else-whole-other_whole : goal.returns-else-whole-other_whole
returns-else-whole-other_whole c =
    let a = c.args.self.now in
    let b = c.args.other.now in
    let first : SFits w64 c.floor-whole.result = search rules in
    let second : SFits w64 c.floor-other_whole.result = search rules in
    let same : int_div_euclid a.numerator (pos a.denominator) ≡ int_div_euclid b.numerator (pos b.denominator) =
    sym (to_z-of_z w64 c.floor-whole.result first ∙ c.floor-whole.ensures) ∙ ap (to_z w64) c.if-whole-other_whole.false ∙ to_z-of_z w64 c.floor-other_whole.result second ∙ c.floor-other_whole.ensures in
    ap₂ (λ (r : ℕ) (s : ℕ). ltb (r * b.denominator) (s * a.denominator)) c.rest.ensures.value c.rest-else-whole-other_whole.ensures.value
    ∙ by_rests a.numerator b.numerator a.denominator b.denominator a.denominator_least b.denominator_least same
