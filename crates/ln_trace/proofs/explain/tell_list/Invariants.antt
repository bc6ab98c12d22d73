use Rattle.std.proofs.Common.{◌≤◌, ◌+◌}
use Rattle.ln_order.specs.Places.{order_places}
use Rattle.ln_code.specs.Lists.{list_from, list_of}
use Rattle.ln_code.specs.Memory.{MadeFor}
use Rattle.ln_code.specs.RowOf.{row_of}
use Rattle.ln_trace.specs.Explain.{TellOn}
use Rattle.ln_trace.proofs.explain.tell_list.Given as goal

abbrev pub invariant-prefixes : goal.invariant-prefixes
invariant-prefixes l = record {
  made : MadeFor l.p l.s;
  within : l.j ≤ l.sites + 1;
  on : TellOn l.p (row_of l.p.shape.sites l.p.shape.vars l.r).values (list_of l.p (order_places l.order))
      (list_from l.p (order_places l.order) l.j) l.fn.out.items l.out.items;
}
