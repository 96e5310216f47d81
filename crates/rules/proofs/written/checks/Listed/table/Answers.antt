use Rattle.std.proofs.Common.{◌≤◌, sym, subst, arith}
use Rattle.rules.specs.Meaning.{Sound}
use Rattle.rules.specs.Written.{absolute_sum}
use Rattle.rules.proofs.Loading.{accepted_sound, accepted_told}
use Rattle.rules.proofs.written.checks.Listed.table.Goals as goal

pub invariant_of-result : goal.invariant_of-result
invariant_of-result c =
    let list = c.args.self.now in
    let small : absolute_sum list.weights.now ≤ 1048576 = omega arith in
    record {
      sound =
          subst Sound
          (sym (accepted_told list.weights.now list.denominator list.degree _ _ _ _ c.is_mirrored-symmetric.ensures c.degree_told-degree.ensures list.total c.spread-weights.ensures))
          (accepted_sound list.weights.now list.denominator list.degree list.stations list.few list.least list.limit list.low small c.requires);
    }

pub returns : goal.returns
returns c =
    let list = c.args.self.now in
    accepted_told list.weights.now list.denominator list.degree _ _ _ _ c.is_mirrored-symmetric.ensures c.degree_told-degree.ensures list.total c.spread-weights.ensures
