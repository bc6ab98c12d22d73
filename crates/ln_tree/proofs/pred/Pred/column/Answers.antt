use Rattle.std.proofs.Common.{◌∙◌, ap, arith, length}
use Rattle.ln_tree.specs.Columns.{arg_columns}
use Rattle.ln_tree.proofs.ColumnLemmas.{column_here, column_more, column_none}
use Rattle.ln_tree.proofs.pred.Pred.column.Goals as goal

pub returns-then-left-width : goal.returns-then-left-width
returns-then-left-width c =
    let here = column_here (arg_columns c.args.t.now.sites c.args.t.now.params) c.args.self.now.args c.each.arg-index c.arg-item.result c.each.left _
    (rw c.as_slice-arg-items.ensures at c.each-test.true)
    (rw c.as_slice-arg-items.ensures at c.arg-item.is) (rw c.arg_width-width.ensures at c.if-left-width.true) c.each.invariant in
    rw here at c.arg_column.ensures

pub each-preserved : goal.each-preserved
each-preserved c =
    column_more (arg_columns c.args.t.now.sites c.args.t.now.params) c.args.self.now.args c.each.arg-index c.arg-item.result c.each.left
    c.arg_width-width.result _ (rw c.as_slice-arg-items.ensures at c.each-test.true)
    (rw c.as_slice-arg-items.ensures at c.arg-item.is) c.arg_width-width.ensures (omega (arith, c.if-left-width.false)) c.each.invariant

pub returns : goal.returns
returns c =
    c.new.ensures.items ∙ column_none (arg_columns c.args.t.now.sites c.args.t.now.params) c.args.self.now.args c.each.arg-index c.each.left _
    (omega (arith, ap length c.as_slice-arg-items.ensures)) c.each.invariant
