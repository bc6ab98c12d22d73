use Rattle.ln_tree.specs.Table.{pred_of, table_of}
use Rattle.ln_parse.specs.Canonical.{pred}
use Rattle.ln_parse.proofs.Texts.Putting.{each_more}
use Rattle.ln_parse.proofs.printer.put_preds.Goals as goal

pub preds-preserved : goal.preds-preserved
preds-preserved c =
    each_more (pred (table_of c.args.t.now.sites c.args.t.now.params c.args.t.now.preds)) pred_of c.as_slice-preds.result.now c.preds.p-index
    c.p-item.result c.preds.invariant c.preds-test.true c.p-item.is c.in_ok-put_pred.ensures
