use Rattle.ln_top.proofs.TextsLemmas.CheckLaws.{counts_end, counts_start, counts_more}
use Rattle.ln_top.proofs.texts.check.counts.Goals as goal

pub preds-init : goal.preds-init
preds-init c = rw c.new-text.ensures.items (counts_start c.args.c.now.table.preds)

pub stage_count-requires : goal.stage_count-requires
stage_count-requires c = rw (c.as_slice-p-items.ensures, c.table.ensures) at c.preds-test.true

pub preds-preserved : goal.preds-preserved
preds-preserved c =
    let few = rw (c.as_slice-p-items.ensures, c.table.ensures) at c.preds-test.true in
    let there = rw (c.as_slice-p-items.ensures, c.table.ensures) at c.p-item.is in
    counts_more c.args.c.now.table.preds c.preds.i c.p-item.result _ _ _ few there c.preds.invariant c.stage_count.ensures
    c.in_ok-add_count.ensures

pub returns : goal.returns
returns c =
    let all = rw (c.as_slice-p-items.ensures, c.table.ensures) at c.preds-test.false in
    counts_end c.args.c.now.table.preds c.preds.i c.preds.text.items all c.preds.invariant
