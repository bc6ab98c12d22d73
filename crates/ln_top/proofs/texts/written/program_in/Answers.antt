-- Answers to the goals of `program_in` in src/texts/written.rt.
use Rattle.std.proofs.Common.{map, refl}
use Rattle.std.proofs.lemmas.Result.{IfOk-weaker}
use Rattle.ln_tree.specs.Table.{pred_of}
use Rattle.ln_top.specs.declared.texts.written.Style.TheVariants.{EveryRow, Filtered, OneOrder}
use Rattle.ln_top.proofs.TextsLemmas.WrittenLaws.{written_at}
use Rattle.ln_top.proofs.texts.written.program_in.Goals as goal

pub returns-in-Filtered : goal.returns-in-Filtered
returns-in-Filtered c = rw c.in-Filtered.is (written_at Filtered (map pred_of c.args.source.now.table.preds) c.args.i c.args.entry c.in_ok-whole.whole
    c.in_ok-whole.whole c.in_ok-whole.ensures.program c.blocks-blocks.ensures.kept c.in_ok-whole.ensures.small refl)

pub returns-in-EveryRow : goal.returns-in-EveryRow
returns-in-EveryRow c = rw c.in-EveryRow.is (written_at EveryRow (map pred_of c.args.source.now.table.preds) c.args.i c.args.entry c.in_ok-whole.whole
    c.without_filter.result c.in_ok-whole.ensures.program c.blocks-blocks.ensures.kept c.in_ok-whole.ensures.small c.without_filter.ensures)

pub returns-in-OneOrder : goal.returns-in-OneOrder
returns-in-OneOrder c = rw c.in-OneOrder.is (IfOk-weaker c.reduced.result _ _ (λ q e. written_at OneOrder (map pred_of c.args.source.now.table.preds)
    c.args.i c.args.entry c.in_ok-whole.whole q c.in_ok-whole.ensures.program c.blocks-blocks.ensures.kept c.in_ok-whole.ensures.small e)
    c.reduced.ensures)
