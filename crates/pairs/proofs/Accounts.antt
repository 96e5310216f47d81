-- The verdict from what was read, by the bytes of two cases.
use Rattle.std.proofs.Common.{◌≡◌, ℕ, List, None, Ok, Err, Option, Result, option_and_then, option_map, refl, ap, ◌∙◌, ap₂, subst}
use Rattle.std.specs.Result.{result_map_both, result_ok}
use Rattle.rules.specs.Faults.{carried}
use Rattle.rules.specs.Meaning.{Meaning}
use Rattle.rules.specs.declared.fault.Fault.{Fault}
use Rattle.sources.specs.Readings.{Readings}
use Rattle.sources.specs.Surveys.{surveyed}
use Rattle.sources.specs.declared.survey.Survey.{Survey}
use Rattle.runs.specs.Ledger.{blank, loading, step}
use Rattle.runs.specs.declared.verdict.Verdict.{Verdict}
use Rattle.claims.specs.Laws.{VerdictLaw, verdict_between}
use Rattle.claims.specs.Replays.{Account}
use Rattle.session.specs.Orders.{Parts, order_of, parts}
use Rattle.session.specs.declared.order.Order.{Order}
use Rattle.pairs.specs.Accounts.{account_of_case, account_of_order, verdict_on_bytes}
use Rattle.pairs.proofs.Laws.{law_on_bytes}

-- what a pile and a survey come to
abbrev accounted : Result Meaning Fault → Result Readings Fault → Result Account Fault
accounted q s = carried q (λ m. carried s (λ r. Ok (record { pile = m; ledger = step m blank (loading r) })))

none_first : (f : Fault) (c : Result Account Fault) → None ≡ verdict_between (Err f) c
none_first f (Ok y) = refl
none_first f (Err g) = refl

none_second : (a : Result Account Fault) (f : Fault) → None ≡ verdict_between a (Err f)
none_second (Ok x) f = refl
none_second (Err g) f = refl

no_account : (q : Result Meaning Fault) (f : Fault) (c : Result Account Fault) → None ≡ verdict_between (accounted q (Err f)) c
no_account (Ok m) f c = none_first f c
no_account (Err g) f c = none_first g c

-- no verdict where the first survey is refused
pub no_survey : {s : Result Readings Fault} (r : Result Survey Fault) (q : Result Meaning Fault) (c : Result Account Fault) → result_map_both surveyed (λ e. e) r ≡ s → None ≡ result_ok r → None ≡ verdict_between (accounted q s) c
no_survey (Ok x) q c er en = absurd cc
no_survey (Err f) q c er en = subst (λ z. None ≡ verdict_between (accounted q z) c) er (no_account q f c)

-- the parts of an order that was read
pub read_is : {o : Result Parts Fault} (r : Result Order Fault) (k : Option Order) → result_map_both parts (λ e. e) r ≡ o → k ≡ result_ok r → option_map parts k ≡ result_ok o
read_is (Ok x) k er ek = ap (option_map parts) ek ∙ ap result_ok er
read_is (Err f) k er ek = ap (option_map parts) ek ∙ ap result_ok er

-- the verdict from two orders
abbrev ordered : (s t : List ℕ) → Option Parts → Option Parts → Option (Result Verdict Fault)
ordered s t a c = option_and_then (λ p. option_and_then (λ q. verdict_between (account_of_order p s) (account_of_order q t)) c) a

ordered_is : (s t : List ℕ) (o p : Result Parts Fault) → ordered s t (result_ok o) (result_ok p) ≡ verdict_between (carried o (λ x. account_of_order x s)) (carried p (λ y. account_of_order y t))
ordered_is s t (Ok x) (Ok y) = refl
ordered_is s t (Ok x) (Err f) = none_second (account_of_order x s) f
ordered_is s t (Err f) (Ok y) = none_first f (account_of_order y t)
ordered_is s t (Err f) (Err g) = refl

-- the verdict on the orders that were read, and its law
pub verdict_is : (o s p t : List ℕ) (a c : Option Parts) (v : Option (Result Verdict Fault)) → a ≡ result_ok (order_of o) → c ≡ result_ok (order_of p) → v ≡ ordered s t a c → (v ≡ verdict_on_bytes o s p t) × VerdictLaw (account_of_case o s) (account_of_case p t) v
verdict_is o s p t a c v ea ec ev =
    let value = ev ∙ ap₂ (ordered s t) ea ec ∙ ordered_is s t (order_of o) (order_of p) in
    (value, law_on_bytes o s p t v value)
