use Rattle.std.proofs.Common.{drop, map}
use Rattle.ln_base.specs.Lines.{Leaves}
use Rattle.ln_tree.specs.Table.{pred_of, table_of}
use Rattle.ln_parse.specs.Canonical.{pred, each, text_of}
use Rattle.ln_parse.proofs.printer.put_preds.Given as goal

abbrev pub invariant-preds : goal.invariant-preds
invariant-preds l =
    let t = table_of l.t.sites l.t.params l.t.preds in
    Leaves text_of l.initial.out.items l.out.items (each (pred t) (map pred_of (drop l.p-index l.preds))) (each (pred t) (map pred_of l.preds))
