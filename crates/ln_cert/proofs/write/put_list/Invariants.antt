-- The loop of `put_list` in src/write.rt.
use Rattle.ln_order.specs.Places.{order_places}
use Rattle.ln_cert.proofs.Writing.Programmed.{Listing}
use Rattle.ln_cert.proofs.write.put_list.Given as goal

abbrev pub invariant-segments : goal.invariant-segments
invariant-segments l = Listing l.p (order_places l.o) l.fn.out.items l.out.items l.j
