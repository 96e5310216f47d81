-- Calls and replies as records, and what a list of calls leaves in the buffer.
use Rattle.std.specs.Prelude.{ℕ, cond, List, ◌++◌, map, length, drop, pos, Some, None, Ok, Err, Option, Result, ◌==◌, nat_le}
use Rattle.rules.specs.Faults.{carried}
use Rattle.rules.specs.declared.fault.Fault.{Fault}
use Rattle.runs.specs.Ledger.{Entry, asking, declaring, entering, publishing, striking}
use Rattle.runs.specs.declared.estimate.Estimate.{Estimate}
use Rattle.claims.specs.Histories.{replies_from}
use Rattle.claims.specs.Replays.{Account}
use Rattle.pairs.specs.Accounts.{account_of_case}
use Rattle.battenlime.specs.declared.records.CallRecord.{CallRecord}
use Rattle.battenlime.specs.declared.records.EstimateRecord.{EstimateRecord}
use Rattle.battenlime.specs.declared.records.RefusalRecord.{RefusalRecord}
use Rattle.battenlime.specs.Records.{estimate_shown, refusal_shown}
use Rattle.battenlime.specs.Weights.{too_few_places}

-- the call that a record stands for: 1 enter, 2 strike, 3 declare, 4 publish, any other the question for the result
abbrev pub entry_meant : CallRecord → Entry
entry_meant c =
    cond (c.kind == 1) (entering c.station c.value)
    (cond (c.kind == 2) (striking c.station)
    (cond (c.kind == 3) (declaring c.tolerance) (cond (c.kind == 4) publishing asking)))

-- a reply: zeros for a change that is made, the result, or zeros with the refusal
abbrev pub reply_shown : Result (Option Estimate) Fault → EstimateRecord
reply_shown (Ok None) = record {
  numerator = pos 0;
  denominator = 0;
  radius = pos 0;
  degree = 0;
  refusal = refusal_shown None;
}
reply_shown (Ok (Some e)) = estimate_shown (Ok e)
reply_shown (Err f) = estimate_shown (Err f)

-- the rule that is ordered and the ledger of a new run over it with the survey loaded, where there is a place for each reply
abbrev pub started : (order survey : List ℕ) → (calls places : ℕ) → Result Account Fault
started order survey calls places =
    carried (account_of_case order survey) (λ a. cond (nat_le calls places) (Ok a) (Err (too_few_places calls)))

-- the same from what the rule and the survey come to
abbrev pub started_by : Result Account Fault → (calls places : ℕ) → Result Account Fault
started_by account calls places = carried account (λ a. cond (nat_le calls places) (Ok a) (Err (too_few_places calls)))

-- why there is no answer, or three zeros
abbrev pub refusal_told : {A : Type 0} → Result A Fault → RefusalRecord
refusal_told (Ok a) = refusal_shown None
refusal_told (Err f) = refusal_shown (Some f)

-- the places afterwards: the replies, and what stood beyond them; as they were where there is no run, or too little room
abbrev pub replies_left : Result Account Fault → List CallRecord → List EstimateRecord → List EstimateRecord
replies_left (Ok a) calls before =
    map reply_shown (replies_from a.pile a.ledger (map entry_meant calls)) ++ drop (length calls) before
replies_left (Err f) calls before = before
