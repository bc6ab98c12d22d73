use Rattle.std.proofs.Common.{◌++◌, ap, ◌∙◌}
use Rattle.ln_order.specs.Places.{order_places}
use Rattle.ln_code.specs.RowOf.{row_of}
use Rattle.ln_trace.specs.declared.line.TraceLine.TheVariants as line
use Rattle.ln_trace.specs.Text.{text_of_line}
use Rattle.ln_trace.proofs.BlockLaw.{row-told}
use Rattle.ln_trace.proofs.explain.row_text.Goals as goal

pub order_at-order-requires : goal.order_at-order-requires
order_at-order-requires c = rw c.shape.ensures c.requires.row

pub tell_list-requires-clause-order : goal.tell_list-requires-clause-order
tell_list-requires-clause-order c = (rw c.shape.ensures at c.order_at-order.ensures.size) ∙ c.requires.row.size

pub returns-clause-told : goal.returns-clause-told
returns-clause-told c =
    let p = c.args.p.now in
    row-told p (row_of p.shape.sites p.shape.vars c.args.r.now) c.args.n (order_places c.order_at-order.result)
    c.put_row.new.out.items c.tell_list.new.out.items c.requires.row.size (rw c.shape.ensures at c.order_at-order.ensures)
    (c.in_ok-put_row.ensures ∙ ap (λ y. y ++ text_of_line (line.Row c.args.n)) c.in_ok-text.ensures.items) c.in_ok-tell_list.ensures.told
