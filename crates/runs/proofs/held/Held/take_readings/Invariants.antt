use Rattle.std.proofs.Common.{◌≡◌}
use Rattle.runs.specs.Holding.{readings_held}
use Rattle.runs.proofs.Loads.{taken}
use Rattle.runs.proofs.held.Held.take_readings.Given as goal

-- the readings of the stations before this one are taken over
abbrev pub invariant-loop-station : goal.invariant-loop-station
invariant-loop-station g l = readings_held l.self ≡ taken l.station (g.S.Source.meaning l.source) (readings_held l.initial.self)
