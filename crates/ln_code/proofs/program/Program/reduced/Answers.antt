use Rattle.ln_code.proofs.OneOrder.{one_order_joins}
use Rattle.ln_code.proofs.program.Program.reduced.Goals as goal

pub join-requires : goal.join-requires
join-requires c =
    let s = c.self.inside in
    one_order_joins _ c.in_ok-list.list.items
    c.past_all-past.result c.first.result c.in_ok-segments.segments c.self.invariant (rw (← c.self.view_is) at c.in_ok-list.ensures)
    (rw (c.as_slice.ensures.value) at c.past_all-past.ensures) c.first.ensures (rw (c.as_slice-2.ensures) at c.in_ok-segments.ensures)
