-- Which number and which name a report prints for a fault, and how a fault is carried.
use Rattle.std.specs.Prelude.{ℕ, List, [], ◌∷◌, ◌++◌, Ok, Err, decimal, Result}
use Rattle.rules.specs.declared.fault.Fault.{Fault}
use Rattle.rules.specs.declared.fault.Cause.{Cause}
use Rattle.rules.specs.declared.fault.Cause.TheVariants.{ListLength, DenominatorRange, WeightSum, WrittenDegree, NotExact, CountZero, SpanLimit, DegreeLimit, SizeLimit, CoefficientCount, ReadingRange, CountRange, StationOrder, ByteLength, ToleranceRange, NoComponent, ForceComponent, StationBeyondSpan, Published, NothingToStrike, EmptyStation, SpansDiffer, BufferShort, NotOffered}
use Rattle.rules.specs.declared.fault.Origin.{Origin}
use Rattle.rules.specs.declared.fault.Origin.TheVariants.{Rule, Layer, Source, Run, Other, Order, Output}

abbrev pub number_of : Cause → ℕ
number_of ListLength = 1
number_of DenominatorRange = 2
number_of WeightSum = 3
number_of WrittenDegree = 4
number_of NotExact = 5
number_of CountZero = 6
number_of SpanLimit = 7
number_of DegreeLimit = 8
number_of SizeLimit = 9
number_of CoefficientCount = 10
number_of ReadingRange = 11
number_of CountRange = 12
number_of StationOrder = 13
number_of ByteLength = 14
number_of ToleranceRange = 15
number_of NoComponent = 16
number_of ForceComponent = 17
number_of StationBeyondSpan = 18
number_of Published = 19
number_of NothingToStrike = 20
number_of EmptyStation = 21
number_of SpansDiffer = 22
number_of BufferShort = 23
number_of NotOffered = 24

-- the name as text, in ASCII: RULE, LAYER, SOURCE, RUN, OTHER, ORDER, OUTPUT
abbrev pub name_of : Origin → List ℕ
name_of Rule = 82 ∷ 85 ∷ 76 ∷ 69 ∷ []
name_of Layer = 76 ∷ 65 ∷ 89 ∷ 69 ∷ 82 ∷ []
name_of Source = 83 ∷ 79 ∷ 85 ∷ 82 ∷ 67 ∷ 69 ∷ []
name_of Run = 82 ∷ 85 ∷ 78 ∷ []
name_of Other = 79 ∷ 84 ∷ 72 ∷ 69 ∷ 82 ∷ []
name_of Order = 79 ∷ 82 ∷ 68 ∷ 69 ∷ 82 ∷ []
name_of Output = 79 ∷ 85 ∷ 84 ∷ 80 ∷ 85 ∷ 84 ∷ []

-- number, layer and place with single spaces between
abbrev pub fault_text : Fault → List ℕ
fault_text f = decimal (number_of f.cause) ++ (32 ∷ (name_of f.layer ++ (32 ∷ decimal f.place)))

-- the fault as it is, or what f makes of the value
abbrev pub carried : {A B : Type 0} → Result A Fault → (A → Result B Fault) → Result B Fault
carried (Ok a) f = f a
carried (Err e) f = Err e
