use Rattle.std.proofs.Common.{map, take}
use Rattle.ln_tree.specs.Table.{pred_of}
use Rattle.ln_top.specs.Texts.Check.{AreCounts}
use Rattle.ln_top.proofs.texts.check.counts.Given as goal

abbrev pub invariant-preds : goal.invariant-preds
invariant-preds l = AreCounts (map pred_of (take l.i l.c.table.preds)) l.text.items
