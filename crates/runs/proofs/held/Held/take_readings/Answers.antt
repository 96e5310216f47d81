use Rattle.std.proofs.Common.{ℤ, sym, ap, ◌∙◌, w64, SFits, rules}
use Rattle.std.proofs.lemmas.Int.{to_z-of_z}
use Rattle.runs.specs.Changes.{with_value}
use Rattle.runs.specs.Holding.{readings_held}
use Rattle.runs.proofs.Loads.{taken_skip, taken_more}
use Rattle.runs.proofs.held.Held.take_readings.Goals as goal

pub loop-station-preserved : goal.loop-station-preserved
loop-station-preserved g c =
    let source = g.S.Source.meaning c.args.source.now in
    let r = readings_held c.args.self.now in
    let n = c.loop-station.station in
    elim c.match-reading.branch [
      | goal.in-Some w ↦
          let fits : SFits w64 w.in-Some.value = search rules in
          ap readings_held w.self-is ∙ w.put.ensures ∙ ap (λ (v : ℤ). with_value n v (readings_held c.loop-station.self)) (to_z-of_z w64 w.in-Some.value fits)
          ∙ ap (with_value n w.in-Some.value) c.loop-station.invariant ∙ taken_more source r n w.in-Some.value (sym w.in-Some.ensures)
      | goal.in_default w ↦ ap readings_held w.self-is ∙ c.loop-station.invariant ∙ taken_skip source r n (sym w.in_default.ensures)
    ]
