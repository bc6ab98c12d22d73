-- Answers to the goals of `put_list` in src/write.rt.
use Rattle.std.proofs.Common.{ap, arith, length}
use Rattle.ln_order.specs.Places.{order_places}
use Rattle.ln_cert.proofs.Writing.Programmed.{list_end, more_list}
use Rattle.ln_cert.proofs.write.put_list.Goals as goal

pub segments-preserved : goal.segments-preserved
segments-preserved c =
    let l = ap length c.places.ensures.value in
    more_list c.args.p.now (order_places c.args.o.now) c.args.out.now.items c.segments.out.items c.put_numbers.new.out.items
    c.segment.result.now c.segments.j (omega (arith, l)) c.segment.ensures.value c.segments.invariant c.in_ok-put_numbers.ensures

pub returns : goal.returns
returns c =
    let l = ap length c.places.ensures.value in
    list_end c.args.p.now (order_places c.args.o.now) c.args.out.now.items c.segments.out.items c.segments.j (omega (arith, l)) c.segments.invariant
