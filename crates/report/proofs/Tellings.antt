-- A line tells its numbers: no other numbers have the same line.
use Rattle.std.proofs.Common.{◌≡◌, ℕ, suc, eqb, Bool, false, List, [], ◌∷◌, ◌++◌, get_or, ℤ, pos, negsuc, sym, refl, ap, ◌∙◌, append_assoc, arith, rules}
use Rattle.std.specs.List.{All, slice_split}
use Rattle.std.proofs.lemmas.Grind.{common_steps}
use Rattle.std.proofs.lemmas.List.{append_cancel_right}
use Rattle.std.proofs.lemmas.List.Elements.{All-append, All-cons, All-nil, All-same, All-from_get_or, All-from_recursion}
use Rattle.std.proofs.lemmas.List.Splits.{slice_split_at, slice_split_none}
use Rattle.rules.specs.Faults.{number_of, name_of}
use Rattle.rules.specs.declared.fault.Fault.{Fault}
use Rattle.rules.specs.declared.fault.Cause.{Cause}
use Rattle.rules.specs.declared.fault.Cause.TheVariants.{ListLength, DenominatorRange, WeightSum, WrittenDegree, NotExact, CountZero, SpanLimit, DegreeLimit, SizeLimit, CoefficientCount, ReadingRange, CountRange, StationOrder, ByteLength, ToleranceRange, NoComponent, ForceComponent, StationBeyondSpan, Published, NothingToStrike, EmptyStation, SpansDiffer, BufferShort, NotOffered}
use Rattle.rules.specs.declared.fault.Origin.{Origin}
use Rattle.report.specs.Reports.{space, newline, refused}
use Rattle.report.specs.Meanings.{DecimalText, SignedText, ResultLine, RefusalLine}

abbrev is_space : ℕ → Bool
is_space c = eqb c 32

abbrev NoSpace : ℕ → Type 0
NoSpace c = is_space c ≡ false

abbrev Solid : List ℕ → Type 0
Solid = All NoSpace

-- the parts of a line are what stands between its spaces
between_spaces : (a b d e : List ℕ) → Solid a → Solid b → Solid d → Solid e → slice_split is_space (a ++ space ++ b ++ space ++ d ++ space ++ e ++ newline) ≡ a ∷ b ∷ d ∷ (e ++ newline) ∷ []
between_spaces a b d e sa sb sd se =
    simp append_assoc
    (slice_split_at is_space a 32 (b ++ 32 ∷ (d ++ 32 ∷ (e ++ newline))) sa refl ∙
    ap (λ ps. a ∷ ps) (slice_split_at is_space b 32 (d ++ 32 ∷ (e ++ newline)) sb refl) ∙
    ap (λ ps. a ∷ b ∷ ps) (slice_split_at is_space d 32 (e ++ newline) sd refl) ∙
    ap (λ ps. a ∷ b ∷ d ∷ ps) (slice_split_none is_space (e ++ newline) (search (rules, All-append, All-cons, All-nil))))

-- so lines that are equal have equal parts
same_parts : (a b d e a' b' d' e' line : List ℕ) → Solid a → Solid b → Solid d → Solid e → Solid a' → Solid b' → Solid d' → Solid e' → line ≡ a ++ space ++ b ++ space ++ d ++ space ++ e ++ newline → line ≡ a' ++ space ++ b' ++ space ++ d' ++ space ++ e' ++ newline → (a ≡ a') × (b ≡ b') × (d ≡ d') × (e ≡ e')
same_parts a b d e a' b' d' e' line sa sb sd se sa' sb' sd' se' p q =
    let one = between_spaces a b d e sa sb sd se in
    let two = between_spaces a' b' d' e' sa' sb' sd' se' in
    let last : e ++ newline ≡ e' ++ newline = cc in
    ((cc), (cc), (cc), append_cancel_right e e' newline last)

solid_digits : (n : ℕ) (t : List ℕ) → DecimalText n t → Solid t
solid_digits n t d = All-from_get_or NoSpace t 0 (λ k l. grind (arith, common_steps, d.only_digits k l))

solid_signed : (z : ℤ) (t : List ℕ) → SignedText z t → Solid t
solid_signed (pos n) t d = solid_digits n t d
solid_signed (negsuc n) t d = All-same NoSpace t (45 ∷ d.0) d.1 (All-cons NoSpace 45 d.0 refl (solid_digits (suc n) d.0 d.2))

solid_name : (o : Origin) → Solid (name_of o)
solid_name o = All-from_recursion NoSpace (name_of o) (grind arith)

solid_word : Solid refused
solid_word = All-from_recursion NoSpace refused (search rules)

same_number : (m n : ℕ) (s t : List ℕ) → s ≡ t → DecimalText m s → DecimalText n t → m ≡ n
same_number m n s t e d f = cc

not_minus : (n : ℕ) (s ds : List ℕ) → DecimalText n s → s ≡ 45 ∷ ds → ⊥
not_minus n s ds d e = omega (arith, d.only_digits 0 d.some_digit, ap (λ l. get_or l 0 0) e)

same_signed : (y z : ℤ) (s t : List ℕ) → s ≡ t → SignedText y s → SignedText z t → y ≡ z
same_signed (pos m) (pos n) s t e d f = ap pos (same_number m n s t e d f)
same_signed (pos m) (negsuc n) s t e d f = absurd (not_minus m s f.0 d (e ∙ f.1))
same_signed (negsuc m) (pos n) s t e d f = absurd (not_minus n t d.0 f (sym e ∙ d.1))
same_signed (negsuc m) (negsuc n) s t e d f =
    let digits : d.0 ≡ f.0 = cc (d.1, f.1) in
    let next : suc m ≡ suc n = same_number (suc m) (suc n) d.0 f.0 digits d.2 f.2 in
    cc

pub result_tells : (a a' : ℤ) (b b' d d' : ℕ) (e e' : ℤ) (line : List ℕ) → ResultLine a b d e line → ResultLine a' b' d' e' line → (a ≡ a') × (b ≡ b') × (d ≡ d') × (e ≡ e')
result_tells a a' b b' d d' e e' line l m =
    let p = same_parts _ _ _ _ _ _ _ _ line (solid_signed a _ l.numerator_text) (solid_digits b _ l.denominator_text) (solid_digits d _ l.degree_text) (solid_signed e _ l.radius_text) (solid_signed a' _ m.numerator_text) (solid_digits b' _ m.denominator_text) (solid_digits d' _ m.degree_text) (solid_signed e' _ m.radius_text) l.parts m.parts in
    (same_signed a a' _ _ p.0 l.numerator_text m.numerator_text, same_number b b' _ _ p.1 l.denominator_text m.denominator_text, same_number d d' _ _ p.2 l.degree_text m.degree_text, same_signed e e' _ _ p.3 l.radius_text m.radius_text)

-- the cause with a number
abbrev numbered : List Cause
numbered =
    ListLength ∷ ListLength ∷ DenominatorRange ∷ WeightSum ∷ WrittenDegree ∷ NotExact ∷ CountZero ∷ SpanLimit ∷ DegreeLimit ∷ SizeLimit ∷ CoefficientCount ∷ ReadingRange ∷ CountRange ∷ StationOrder ∷ ByteLength ∷ ToleranceRange ∷ NoComponent ∷ ForceComponent ∷ StationBeyondSpan ∷ Published ∷ NothingToStrike ∷ EmptyStation ∷ SpansDiffer ∷ BufferShort ∷ NotOffered ∷ []

numbered_back : (k : Cause) → get_or numbered (number_of k) ListLength ≡ k
numbered_back k = grind arith

same_cause : (k k' : Cause) → number_of k ≡ number_of k' → k ≡ k'
same_cause k k' e = sym (numbered_back k) ∙ ap (λ n. get_or numbered n ListLength) e ∙ numbered_back k'

same_layer : (o o' : Origin) → name_of o ≡ name_of o' → o ≡ o'
same_layer o o' e = grind arith

pub refusal_tells : (f g : Fault) (line : List ℕ) → RefusalLine f line → RefusalLine g line → f ≡ g
refusal_tells f g line l m =
    let p = same_parts refused _ _ _ refused _ _ _ line solid_word (solid_digits _ _ l.number_text) (solid_name f.layer) (solid_digits _ _ l.place_text) solid_word (solid_digits _ _ m.number_text) (solid_name g.layer) (solid_digits _ _ m.place_text) l.parts m.parts in
    let cause = same_cause f.cause g.cause (same_number _ _ _ _ p.1 l.number_text m.number_text) in
    let layer = same_layer f.layer g.layer p.2 in
    let place = same_number _ _ _ _ p.3 l.place_text m.place_text in
    λ i. record { cause = cause i; layer = layer i; place = place i }
