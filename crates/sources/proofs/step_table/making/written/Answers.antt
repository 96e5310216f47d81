use Rattle.std.proofs.Common.{◌≡◌, ◌+◌, ◌-◌, ℕ, pos, length, cond, ltb, length-drop, sym, ⊎_elim, ℤ, Option, ap, ◌∙◌, arith, w64, SFits, to_z, of_z, rules}
use Rattle.std.proofs.lemmas.Int.{to_z-of_z}
use Rattle.sources.specs.Rows.{told, blank, with_readings}
use Rattle.sources.specs.Searches.{value_of}
use Rattle.sources.specs.StepTables.{start_of, step_at}
use Rattle.sources.proofs.RowFilling.{told_present}
use Rattle.sources.proofs.Steps.{left_from, bound, flat, bound_above, bound_most, stands, written_first, written_more, written_all}
use Rattle.sources.proofs.step_table.making.written.Goals as goal

pub end-requires : goal.end-requires
end-requires c =
    let next = c.in-Some.ensures.steps in
    let start = left_from c.args.starts.now _ c.loop-index.index-iterator.count _ 0 (sym c.loop-index.invariant.0 ∙ next.0.0) in
    omega (arith, next.1, start.0)

pub fill-requires-clause-order : goal.fill-requires-clause-order
fill-requires-clause-order c =
    let next = c.in-Some.ensures.steps in
    let k = c.loop-index.index-iterator.count in
    let start = left_from c.args.starts.now _ k _ 0 (sym c.loop-index.invariant.0 ∙ next.0.0) in
    let end = c.end.ensures ∙ ap (λ i. bound c.args.starts.now (i + 1)) next.1 in
    omega (arith, end, start.1, bound_above c.args.starts.now c.args.values.now c.requires.ordered k start.0)

pub fill-requires-clause-most : goal.fill-requires-clause-most
fill-requires-clause-most c =
    omega (arith, c.end.ensures, bound_most c.args.starts.now c.args.values.now c.requires.ordered (c.in-Some.index + 1))

pub fill-requires-clause-marked : goal.fill-requires-clause-marked
fill-requires-clause-marked c =
    let starts = c.args.starts.now in
    let values = c.args.values.now in
    let next = c.in-Some.ensures.steps in
    let k = c.loop-index.index-iterator.count in
    let start = left_from starts _ k _ 0 (sym c.loop-index.invariant.0 ∙ next.0.0) in
    let end = c.end.ensures ∙ ap (λ i. bound starts (i + 1)) next.1 in
    λ s low high.
    told_present c.loop-index.row s (pos 0)
    (stands starts values c.requires.ordered k start.0 (told c.loop-index.row) c.loop-index.invariant.2 s (let from = start.1 in omega (arith, from)) (omega (arith, end)))

pub mark_from-requires-clause-most : goal.mark_from-requires-clause-most
mark_from-requires-clause-most c =
    let first : c.unwrap_or.result ≡ bound c.args.starts.now 0 = search rules in
    omega (arith, first, bound_most c.args.starts.now c.args.values.now c.requires.ordered 0)

pub loop-index-init : goal.loop-index-init
loop-index-init c =
    let none : 0 ≡ c.into_iter-index-iterator.result.count = search rules in
    let first : c.unwrap_or.result ≡ bound c.args.starts.now 0 = search rules in (
      search rules,
      search rules,
      λ s.
          ap (λ (f : ℕ → Option ℤ). f s) c.mark_from.ensures ∙ ap (λ (f : ℕ → Option ℤ). with_readings c.unwrap_or.result 1025 (pos 0) f s) c.zeros-row.ensures.none ∙ ap (λ i. with_readings i 1025 (pos 0) blank s) first ∙ written_first c.args.starts.now c.args.values.now c.requires.ordered s
          ∙ ap (λ k. cond (ltb s (bound c.args.starts.now k)) (step_at c.args.starts.now c.args.values.now s) (flat c.args.starts.now s)) none,
    )

pub loop-index-preserved : goal.loop-index-preserved
loop-index-preserved c =
    let starts = c.args.starts.now in
    let values = c.args.values.now in
    let k = c.loop-index.index-iterator.count in
    let next = c.in-Some.ensures.steps in
    let start = left_from starts _ k _ 0 (sym c.loop-index.invariant.0 ∙ next.0.0) in
    let value = left_from values _ k _ (pos 0) (sym c.loop-index.invariant.1 ∙ next.0.1) in
    let v = value_of values k in
    let fits : SFits w64 v = search rules in
    let before = told c.loop-index.row in
    let end = c.end.ensures ∙ ap (λ i. bound starts (i + 1)) next.1 in
    let put : told c.fill.new.self ≡ with_readings (start_of starts k) (bound starts (k + 1)) v before =
    c.fill.ensures ∙ ap (λ i. with_readings i c.end.result (to_z w64 (of_z w64 c.in-Some.value.now)) before) start.1
    ∙ ap (λ j. with_readings (start_of starts k) j (to_z w64 (of_z w64 c.in-Some.value.now)) before) end
    ∙ ap (λ x. with_readings (start_of starts k) (bound starts (k + 1)) (to_z w64 (of_z w64 x)) before) value.1
    ∙ ap (λ x. with_readings (start_of starts k) (bound starts (k + 1)) x before) (to_z-of_z w64 v fits) in
    rw next.2 (start.2, value.2, written_more starts values c.requires.ordered k start.0 before (told c.fill.new.self) put c.loop-index.invariant.2)

pub returns : goal.returns
returns c =
    let k = c.loop-index.index-iterator.count in
    let none = c.in-None.ensures.steps.0 in
    let past : length c.args.starts.now - k ≡ 0 =
    ⊎_elim (λ a. sym (length-drop k c.args.starts.now) ∙ ap length (sym c.loop-index.invariant.0) ∙ a.1.0)
    (λ b. ap (λ n. n - k) c.requires.same_length ∙ sym (length-drop k c.args.values.now) ∙ ap length (sym c.loop-index.invariant.1) ∙ b.1.0) none in
    written_all c.args.starts.now c.args.values.now c.requires.ordered k (omega (arith, past)) (told c.loop-index.row) c.loop-index.invariant.2
