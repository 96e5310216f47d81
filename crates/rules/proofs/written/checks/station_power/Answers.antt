use Rattle.std.proofs.Common.{◌^◌, ◌≤◌, pos, sym, ap, ◌∙◌, arith, w64}
use borrow.Author.Differences.{ints}
use Rattle.std.proofs.lemmas.Int.{to_z_pos}
use Rattle.rules.proofs.Loading.{power_small, power_natural}
use Rattle.rules.proofs.written.checks.station_power.Goals as goal

small : (c : goal.After-pow) → c.pow.result ≤ 16 ^ 10
small c = omega (arith, power_small c.args.station c.args.exponent 10 c.requires.near c.requires.low)

pub pow-requires : goal.pow-requires
pow-requires c = omega (arith, power_small c.args.station c.args.exponent 10 c.requires.near c.requires.low)

pub overflow_cast-result : goal.overflow_cast-result
overflow_cast-result c = omega (arith, ints, small c)

pub returns : goal.returns
returns c =
    to_z_pos w64 c.pow.result (omega (arith, small c)) ∙ ap pos c.pow.ensures ∙ sym (power_natural c.args.station c.args.exponent)
