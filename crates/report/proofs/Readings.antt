-- The lines of a report are the only bytes with their meaning.
use Rattle.std.proofs.Common.{◌≡◌, ℕ, suc, ◌^◌, ◌<◌, List, ◌∷◌, length, get_or, take, ℤ, pos, negsuc, decimal, Option, sym, refl, ap, ◌∙◌, subst, arith, rules}
use lib.Signed.{mag}
use Rattle.std.specs.Int.{IsInRange}
use Rattle.std.specs.Fmt.{signed_decimal}
use Rattle.std.proofs.lemmas.Fmt.{decimal_digit, decimal_nonempty, first_decimal, digits_decimal, digits_value-decimal, decimal-digits_value}
use Rattle.std.proofs.lemmas.Str.Parse.{IsNumeralModel, numerals_by_fold, tells_by_index}
use Rattle.std.proofs.lemmas.Grind.{common_steps}
use Rattle.std.proofs.lemmas.List.{take_at}
use Rattle.rules.specs.Faults.{number_of}
use Rattle.rules.specs.declared.fault.Cause.{Cause}
use Rattle.rules.specs.declared.fault.Fault.{Fault}
use Rattle.report.specs.Reports.{line_of_result, line_of_fault, delivered}
use Rattle.report.specs.declared.written.Written.{Written}
use Rattle.report.specs.Meanings.{read_after, DecimalText, SignedText, ResultLine, RefusalLine, TheOnly}

abbrev OnlyDigits : List ℕ → Type 0
OnlyDigits bytes = (k : ℕ) → k < length bytes → IsInRange 48 57 (get_or bytes k 0)

numerals : IsNumeralModel OnlyDigits (read_after 0)
numerals = numerals_by_fold OnlyDigits tells_by_index read_after (search rules)

pub only_decimal : (n : ℕ) → n < 2 ^ 64 → TheOnly (DecimalText n) (decimal n)
only_decimal n fits =
    record {
      holds =
          record {
            some_digit = decimal_nonempty n fits;
            only_digits = digits_decimal numerals n fits;
            reads_back = digits_value-decimal numerals n fits;
            no_leading_zero = λ e. grind (arith, common_steps, decimal_digit n, first_decimal n);
          };
      unique = λ other t.
          sym (decimal-digits_value numerals other t.only_digits t.some_digit t.no_leading_zero (omega (arith, t.reads_back))) ∙ ap decimal t.reads_back;
    }

pub only_signed : (z : ℤ) → mag z < 2 ^ 63 → TheOnly (SignedText z) (signed_decimal z)
only_signed (pos n) fits = only_decimal n (omega arith)
only_signed (negsuc n) fits =
    let digits : TheOnly (DecimalText (suc n)) (decimal (suc n)) = only_decimal (suc n) (omega arith) in
    record {
      holds = (decimal (suc n), refl, digits.holds);
      unique = λ other t. t.1 ∙ ap (λ ds. 45 ∷ ds) (digits.unique t.0 t.2);
    }

pub only_result : (numerator : ℤ) (denominator degree : ℕ) (radius : ℤ) → mag numerator < 2 ^ 63 → denominator < 2 ^ 64 → degree < 2 ^ 64 → mag radius < 2 ^ 63 → TheOnly (ResultLine numerator denominator degree radius) (line_of_result numerator denominator degree radius)
only_result numerator denominator degree radius f g h k =
    let first = only_signed numerator f in
    let second = only_decimal denominator g in
    let third = only_decimal degree h in
    let fourth = only_signed radius k in
    record {
      holds =
          record {
            first = signed_decimal numerator;
            second = decimal denominator;
            third = decimal degree;
            fourth = signed_decimal radius;
            parts = refl;
            numerator_text = first.holds;
            denominator_text = second.holds;
            degree_text = third.holds;
            radius_text = fourth.holds;
          };
      unique = λ other l.
          cc (l.parts, first.unique _ l.numerator_text, second.unique _ l.denominator_text, third.unique _ l.degree_text, fourth.unique _ l.radius_text);
    }

pub number_fits : (k : Cause) → number_of k < 2 ^ 64
number_fits k = grind arith

pub only_refusal : (f : Fault) → f.place < 2 ^ 64 → TheOnly (RefusalLine f) (line_of_fault f)
only_refusal f h =
    let first = only_decimal (number_of f.cause) (number_fits f.cause) in
    let second = only_decimal f.place h in
    record {
      holds =
          record {
            first = decimal (number_of f.cause);
            second = decimal f.place;
            parts = refl;
            number_text = first.holds;
            place_text = second.holds;
          };
      unique = λ other l. cc (l.parts, first.unique _ l.number_text, second.unique _ l.place_text);
    }

-- where a call wrote anything, it wrote the line, so the front of the buffer means what the line means
pub reads_as : (P : List ℕ → Type 0) (line : List ℕ) (told : Option Fault) (before after : List ℕ) (w : Written) → TheOnly P line → after ≡ (delivered line told before).buffer → w ≡ (delivered line told before).report → 0 < w.len → TheOnly P (take w.len after)
reads_as P line told before after w t p q some =
    let wrote : take w.len after ≡ line = grind (arith, common_steps, take_at) in subst (TheOnly P) (sym wrote) t
