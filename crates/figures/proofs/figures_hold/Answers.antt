use Rattle.std.proofs.Common.{refl}
use Rattle.figures.proofs.Computed.{figures_hold_lem}
use Rattle.figures.proofs.figures_hold.Goals as goal

pub returns : goal.returns
returns c = record { reply = refl; figures = figures_hold_lem }
