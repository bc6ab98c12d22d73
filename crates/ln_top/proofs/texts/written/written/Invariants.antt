-- The loop of `written` in src/texts/written.rt.
use Rattle.std.proofs.Common.{map}
use Rattle.ln_tree.specs.Table.{pred_of}
use Rattle.ln_top.specs.Texts.Written.{BeginsC}
use Rattle.ln_top.proofs.texts.written.written.Given as goal

abbrev pub invariant-each : goal.invariant-each
invariant-each l = BeginsC l.style (map pred_of l.source.table.preds) l.i l.text.items
