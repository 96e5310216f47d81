use Rattle.std.proofs.Common.{◌≡◌, length, sym, ◌∙◌, arith, rules}
use Rattle.sources.specs.Searches.{value_of}
use Rattle.sources.proofs.Steps.{step_in_range}
use Rattle.sources.proofs.Writing.{all_in_range}
use Rattle.sources.proofs.step_table.StepTable.new.Goals as goal

pub new-requires : goal.new-requires
new-requires c =
    let starts = c.args.starts.now in
    let values = c.args.values.now in
    let same : length starts ≡ length values = search rules in
    λ s v e. step_in_range starts values (λ k h. all_in_range (value_of values) (length values) (sym c.in_default-first_out_of_range.ensures) k (omega arith)) s v (sym (c.written.ensures s) ∙ e)
