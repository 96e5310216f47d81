-- The law of the verdict, over the bytes of two cases.
use Rattle.std.proofs.Common.{◌≡◌, ℕ, List, Ok, Err, Option, Result, sym, refl, ◌∙◌, subst}
use Rattle.rules.specs.Faults.{carried}
use Rattle.rules.specs.Meaning.{Meaning, Sound}
use Rattle.rules.specs.declared.fault.Fault.{Fault}
use Rattle.rules.specs.Rows.{built_in_sound}
use Rattle.layers.specs.Layers.{piling}
use Rattle.sources.specs.Readings.{Readings}
use Rattle.sources.specs.Surveys.{survey_of}
use Rattle.runs.specs.Ledger.{blank, loading, step}
use Rattle.runs.specs.declared.verdict.Verdict.{Verdict}
use Rattle.claims.specs.Laws.{VerdictLaw}
use Rattle.claims.specs.Replays.{Account}
use Rattle.claims.proofs.Piles.{piled_sound, piling_ok}
use Rattle.claims.proofs.Settling.{verdict_law_lem}
use Rattle.session.specs.Orders.{Parts, base_of, layers_of, order_of}
use Rattle.pairs.specs.Accounts.{account_of_case, verdict_on_bytes}

-- what a pile and a survey come to
abbrev accounted : Result Readings Fault → Meaning → Result Account Fault
accounted s m = carried s (λ r. Ok (record { pile = m; ledger = step m blank (loading r) }))

pile_kept : (s : Result Readings Fault) (m : Meaning) (a : Account) → accounted s m ≡ Ok a → m ≡ a.pile
pile_kept (Ok r) m a e = cc
pile_kept (Err f) m a e = absurd cc

pile_sound : (p : Parts) (s : Result Readings Fault) (a : Account) (q : Result Meaning Fault) → piling (layers_of p) 1 (base_of p) ≡ q → carried q (accounted s) ≡ Ok a → Sound a.pile
pile_sound p s a (Ok m) is e =
    subst Sound (sym (piling_ok (layers_of p) 1 (base_of p) m is).0 ∙ pile_kept s m a e) (piled_sound (layers_of p) (base_of p) (built_in_sound p.base))
pile_sound p s a (Err f) is e = absurd cc

-- the pile of an accepted case keeps the promises of a rule
case_sound : (o : Result Parts Fault) (s : Result Readings Fault) (a : Account) → carried o (λ p. carried (piling (layers_of p) 1 (base_of p)) (accounted s)) ≡ Ok a → Sound a.pile
case_sound (Ok p) s a e = pile_sound p s a (piling (layers_of p) 1 (base_of p)) refl e
case_sound (Err f) s a e = absurd cc

pub law_on_bytes : (first_order first_survey second_order second_survey : List ℕ) (v : Option (Result Verdict Fault)) → v ≡ verdict_on_bytes first_order first_survey second_order second_survey → VerdictLaw (account_of_case first_order first_survey) (account_of_case second_order second_survey) v
law_on_bytes o s p t v is =
    subst (VerdictLaw (account_of_case o s) (account_of_case p t)) (sym is)
    (verdict_law_lem (account_of_case o s) (account_of_case p t) (case_sound (order_of o) (survey_of s)) (case_sound (order_of p) (survey_of t)))
