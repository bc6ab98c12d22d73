-- Answers to the goals of `written` in src/texts/written.rt.
use Rattle.std.proofs.Common.{ap, arith, length, map}
use Rattle.ln_tree.specs.Table.{pred_of}
use Rattle.ln_top.proofs.TextsLemmas.WrittenLaws.{all, begun}
use Rattle.ln_top.proofs.texts.written.written.Goals as goal

pub each-init : goal.each-init
each-init c = begun c.args.style (map pred_of c.args.source.now.table.preds) c.in_ok-text.text.items c.in_ok-text.ensures

pub each-preserved : goal.each-preserved
each-preserved c = c.in_ok-put_written.ensures c.each.invariant

pub returns : goal.returns
returns c =
    let n = rw c.table.ensures at (ap length c.as_slice-i-end.ensures) in
    all c.args.style c.args.source.now.table c.each.i c.each.text.items (omega (arith, n)) c.requires c.each.invariant
