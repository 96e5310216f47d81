use Rattle.std.proofs.Common.{ap, ◌∙◌}
use Rattle.rules.specs.Tables.{told}
use Rattle.layers.specs.declared.layer.Layer.TheVariants.{Panels}
use Rattle.layers.proofs.Piling.{piling_more, reached_more, reached_refused}
use Rattle.layers.proofs.on_table.lay.Goals as goal

pub returns-in_err-lay_one-clause-table : goal.returns-in_err-lay_one-clause-table
returns-in_err-lay_one-clause-table c =
    ap told c.in_err-lay_one.ensures.kept ∙
    reached_refused c.args.layers.now c.loop-index.index (Panels 0) (told c.loop-index.table) c.in_err-lay_one.field-0.0 c.loop-index-test.true c.in_err-lay_one.ensures.reply ∙
    c.loop-index.invariant.table

pub loop-index-preserved : goal.loop-index-preserved
loop-index-preserved c =
    let ls = c.args.layers.now in
    let i = c.loop-index.index in
    let below = told c.loop-index.table in
    let above = told c.lay_one.new.table in
    let taken = c.loop-index-test.true in
    let made = c.in_ok-lay_one.ensures.reply in record {
      reply = piling_more ls i (Panels 0) below above taken made ∙ c.loop-index.invariant.reply;
      table = reached_more ls i (Panels 0) below above taken made ∙ c.loop-index.invariant.table;
    }
