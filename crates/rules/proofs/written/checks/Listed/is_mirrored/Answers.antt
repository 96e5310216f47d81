use Rattle.std.proofs.Common.{rules, tests, sym}
use Rattle.std.proofs.lemmas.Bool.Decides.{same_from_decides}
use Rattle.std.proofs.lemmas.Iterator.{YieldsList-from_slice, YieldsList-from_zip, same_from_all}
use Rattle.std.proofs.lemmas.Iterator.Adapters.{YieldsList-from_rev_slice}
use Rattle.std.proofs.lemmas.List.{length-reverse}
use Rattle.rules.proofs.Loading.{decides_mirrored}
use Rattle.rules.proofs.written.checks.Listed.is_mirrored.Goals as goal

pub returns : goal.returns
returns c =
    let ws = c.args.self.now.weights.now in
    same_from_decides _ _
    (same_from_all c.all.new.self _ _ _ _ c.all.ensures.ran (YieldsList-from_zip (YieldsList-from_slice ws cc) (YieldsList-from_rev_slice ws cc)) (sym (length-reverse ws)) (λ x q k. search (rules, tests)) (λ x q k. search (rules, tests)))
    (decides_mirrored ws)
