use Rattle.std.proofs.Common.{◌≡◌, ◌<◌, ◌≤◌, ◌+◌, length, take}
use Rattle.ln_order.specs.Places.{order_places}
use Rattle.ln_stage.specs.Staged.{segment_of}
use Rattle.ln_trace.specs.Left.{numbers_at}
use Rattle.ln_trace.proofs.pointer.first_left.Given as goal

abbrev pub invariant-segments : goal.invariant-segments
invariant-segments l = record {
  within : l.j ≤ l.last + 1;
  at : l.j ≤ l.last → l.at ≤ length (segment_of l.st (take l.j (order_places l.o)));
  end : l.last < l.j → l.at ≡ 0;
  same : numbers_at l.st (order_places l.o) l.j l.at ≡ numbers_at l.st (order_places l.o) l.fn.p.sites l.fn.p.at;
}
