use Rattle.std.proofs.Common.{rules, ◌≡◌, Ok, Err, Result, subst, MatchResult}
use Rattle.std.specs.Result.{result_map_both}
use Rattle.rules.specs.Meaning.{Meaning}
use Rattle.rules.specs.declared.fault.Fault.{Fault}
use Rattle.battenlime.specs.Weights.{rule_shown, rule_told}
use Rattle.battenlime.specs.declared.records.RuleRecord.{RuleRecord}
use Rattle.battenlime.proofs.weights.battenlime_weights.Goals as goal

-- a rule that is made or refused, as its record
told_or_zeros : (told : Result Meaning Fault) (shown : RuleRecord) → MatchResult (result_map_both rule_told (λ e. e) told) (λ x. shown ≡ x) (λ e. shown ≡ rule_shown (Err e)) → shown ≡ rule_shown told
told_or_zeros (Ok m) shown is = is
told_or_zeros (Err f) shown is = is

pub returns-clause-rule : goal.returns-clause-rule
returns-clause-rule c =
    told_or_zeros _ _ (subst (λ r. MatchResult r (λ x. c.unwrap_or_else.result ≡ x) (λ e. c.unwrap_or_else.result ≡ rule_shown (Err e))) c.fill.ensures.rule (search rules))
