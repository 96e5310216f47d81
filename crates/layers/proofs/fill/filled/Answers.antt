use Rattle.std.proofs.Common.{◌≡◌, ◌+◌, length, rules}
use Rattle.layers.proofs.Filling.{zero_beyond}
use Rattle.layers.proofs.fill.filled.Goals as goal

pub returns-clause-beyond : goal.returns-clause-beyond
returns-clause-beyond g c =
    let all : length c.loop-station.weight-items ≡ c.args.last + 1 = search rules in
    zero_beyond c.loop-station.weight-items c.args.last all
