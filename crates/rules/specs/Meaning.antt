-- What a rule tells, as one record, and what it promises of it.
use Rattle.std.specs.Prelude.{◌≡◌, ℕ, suc, ◌%◌, ◌^◌, ◌≤◌, Bool, true, ℤ, pos, ◌≤ℤ◌}
use Rattle.algebra.specs.Sums.{sum, abs}
use Rattle.algebra.specs.Weights.{Exact, Mirrored, ZeroBeyond}

-- what a weighted sum needs: the number of stations, a weight for each, the common denominator, and a ceiling for the sum of the absolute weights
pub record Weighting : Type 0 where
  pub stations : ℕ
  pub weight : ℕ → ℤ
  pub denominator : ℕ
  pub ceiling : ℕ

-- what an integral needs beyond that: the span L, so that the stations are 0 to L, the degree, and whether the rule is told symmetric
pub record Meaning : Type 0 where
  pub weighting : Weighting
  pub span : ℕ
  pub degree : ℕ
  pub symmetric : Bool

-- what a rule tells that holds these numbers, with the stations 0 to the span
abbrev pub telling : (span denominator degree : ℕ) → (symmetric : Bool) → (ceiling : ℕ) → (weight : ℕ → ℤ) → Meaning
telling l d n y c w = record {
  weighting = record { stations = suc l; weight = w; denominator = d; ceiling = c };
  span = l;
  degree = n;
  symmetric = y;
}

-- the denominator is 1 to 2^31
pub record DenominatorInRange (w : Weighting) : Type 0 where
  pub least : 1 ≤ w.denominator
  pub most : w.denominator ≤ 2 ^ 31

-- the absolute weights sum to at most the ceiling, which is at most 2^40
pub record WithinCeiling (w : Weighting) : Type 0 where
  pub bounded : sum w.stations (λ s. abs (w.weight s)) ≤ℤ pos w.ceiling
  pub most : w.ceiling ≤ 2 ^ 40

-- the span is 1 to 1,024, and the stations are 0 to the span
pub record SpanInRange (m : Meaning) : Type 0 where
  pub least : 1 ≤ m.span
  pub most : m.span ≤ 1024
  pub stations : m.weighting.stations ≡ suc m.span

-- the weight is 0 beyond the span
abbrev pub ZeroBeyondSpan : Meaning → Type 0
ZeroBeyondSpan m = ZeroBeyond m.span m.weighting.weight

-- every power up to the degree, which is at most 11, is integrated exactly
pub record ExactToDegree (m : Meaning) : Type 0 where
  pub most : m.degree ≤ 11
  pub exact : Exact m.span m.weighting.weight m.weighting.denominator m.degree

-- a rule told symmetric has mirrored weights and an odd degree
pub record MirroredIfSymmetric (m : Meaning) : Type 0 where
  pub mirrored : m.symmetric ≡ true → Mirrored m.span m.weighting.weight
  pub odd : m.symmetric ≡ true → m.degree % 2 ≡ 1

-- what every rule promises
pub record Sound (m : Meaning) : Type 0 where
  pub span : SpanInRange m
  pub denominator : DenominatorInRange m.weighting
  pub beyond : ZeroBeyondSpan m
  pub ceiling : WithinCeiling m.weighting
  pub exact : ExactToDegree m
  pub symmetry : MirroredIfSymmetric m
