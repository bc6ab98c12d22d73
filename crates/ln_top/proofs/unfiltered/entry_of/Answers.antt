-- Answers to the goals of `entry_of` in src/unfiltered.rt.
use Rattle.std.proofs.Common.{arith, map, subst, sym}
use Rattle.ln_tree.specs.Table.{pred_of}
use Rattle.ln_top.specs.OneOrder.{HasEntryAt}
use Rattle.ln_top.proofs.ExactLemmas.TurningLaws.{entry_at, few_at}
use Rattle.ln_top.proofs.unfiltered.entry_of.Goals as goal

pub returns-then-pred-lt2 : goal.returns-then-pred-lt2
returns-then-pred-lt2 c = few_at c.args.source.now.table.preds c.args.i c.pred.result.now c.pred.ensures c.if-pred-lt2.true

pub returns : goal.returns
returns c =
    subst (HasEntryAt (map pred_of c.args.source.now.table.preds) c.args.i) (sym c.entry_for.ensures)
    (entry_at c.args.source.now.table.preds c.args.i c.pred.result.now c.symmetry.result c.pred.ensures (omega (arith, c.if-pred-lt2.false))
    c.symmetry.ensures)
