use Rattle.std.proofs.Common.{w64, SFits}
use Rattle.std.proofs.lemmas.Int.{to_z-of_z}
use Rattle.sources.specs.Rows.{told}
use Rattle.runs.proofs.Changes.{put_in_range, put_beyond, put_readings}
use Rattle.runs.proofs.held.Held.put.Goals as goal

pub invariant_of-self : goal.invariant_of-self
invariant_of-self c =
    let h = c.args.self.now in
    let fits : SFits w64 c.args.value = c.ranges.value in
    let put = simp to_z-of_z at c.put.ensures in
    record {
      in_range = put_in_range (told h.row) (told c.put.new.self) c.args.station c.args.value c.requires.station c.requires.value put h.in_range;
      none_beyond = put_beyond (told h.row) (told c.put.new.self) c.args.station c.args.value c.requires.station c.requires.value put h.none_beyond;
      tolerance_most = h.tolerance_most;
    }

pub returns : goal.returns
returns c =
    let h = c.args.self.now in
    let fits : SFits w64 c.args.value = c.ranges.value in
    put_readings (told h.row) (told c.put.new.self) c.args.station c.args.value c.requires.station c.requires.value (simp to_z-of_z at c.put.ensures) h.tolerance
