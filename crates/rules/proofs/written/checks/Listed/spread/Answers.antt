use Rattle.std.proofs.Common.{◌++◌, length, replicate, drop, pos, ap, ◌∙◌}
use Rattle.rules.specs.Written.{weight_in}
use Rattle.rules.proofs.Loading.{padded}
use Rattle.rules.proofs.written.checks.Listed.spread.Goals as goal

pub returns : goal.returns
returns c =
    ap (λ front. weight_in (front ++ drop (length c.args.self.now.weights.now) (replicate 1025 (pos 0)))) c.copy_from_slice.ensures.after
    ∙ padded c.args.self.now.weights.now (length c.args.self.now.weights.now) 1025
