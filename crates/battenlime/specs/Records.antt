-- What the records that cross to another language stand for.
use Rattle.std.specs.Prelude.{ℕ, pos, Some, None, Ok, Err, Option, Result}
use Rattle.rules.specs.Faults.{number_of}
use Rattle.rules.specs.declared.fault.Fault.{Fault}
use Rattle.rules.specs.declared.fault.Origin.{Origin}
use Rattle.rules.specs.declared.fault.Origin.TheVariants.{Rule, Layer, Source, Run, Other, Order, Output}
use Rattle.report.specs.declared.written.Written.{Written}
use Rattle.runs.specs.declared.estimate.Estimate.{Estimate}
use Rattle.runs.specs.declared.verdict.Verdict.{Verdict}
use Rattle.runs.specs.declared.verdict.Verdict.TheVariants.{Apart, Meet}
use Rattle.battenlime.specs.declared.records.EstimateRecord.{EstimateRecord}
use Rattle.battenlime.specs.declared.records.LineRecord.{LineRecord}
use Rattle.battenlime.specs.declared.records.RefusalRecord.{RefusalRecord}
use Rattle.battenlime.specs.declared.records.VerdictRecord.{VerdictRecord}

-- the number that stands for a layer of the library
abbrev pub layer_number : Origin → ℕ
layer_number Rule = 1
layer_number Layer = 2
layer_number Source = 3
layer_number Run = 4
layer_number Other = 5
layer_number Order = 6
layer_number Output = 7

-- a refusal, or three zeros
abbrev pub refusal_shown : Option Fault → RefusalRecord
refusal_shown (Some f) = record { number = number_of f.cause; layer = layer_number f.layer; place = f.place }
refusal_shown None = record { number = 0; layer = 0; place = 0 }

abbrev pub line_shown : Written → LineRecord
line_shown w = record { len = w.len; refusal = refusal_shown w.fault }

-- a result, or zeros with the refusal
abbrev pub estimate_shown : Result Estimate Fault → EstimateRecord
estimate_shown (Ok e) = record {
  numerator = e.value.0;
  denominator = e.value.1;
  radius = e.radius;
  degree = e.degree;
  refusal = refusal_shown None;
}
estimate_shown (Err f) = record {
  numerator = pos 0;
  denominator = 0;
  radius = pos 0;
  degree = 0;
  refusal = refusal_shown (Some f);
}

-- 0 where there are not two runs, 1 for apart, 2 for meet, 3 with the refusal
abbrev pub verdict_shown : Option (Result Verdict Fault) → VerdictRecord
verdict_shown None = record { kind = 0; refusal = refusal_shown None }
verdict_shown (Some (Ok Apart)) = record { kind = 1; refusal = refusal_shown None }
verdict_shown (Some (Ok Meet)) = record { kind = 2; refusal = refusal_shown None }
verdict_shown (Some (Err f)) = record { kind = 3; refusal = refusal_shown (Some f) }
