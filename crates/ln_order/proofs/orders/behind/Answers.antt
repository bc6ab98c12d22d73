use Rattle.std.proofs.Common.{ap, arith, length}
use Rattle.ln_order.proofs.Listing.OrdersLemmas.{all_behind, behind-places}
use Rattle.ln_order.proofs.orders.behind.Goals as goal

pub of-requires-clause-each : goal.of-requires-clause-each
of-requires-clause-each c =
    let o = c.places-others.result.now in
    let e = c.places-others.ensures.value in
    rw (all_behind c.args.first c.places.i o c.places.places (omega arith) c.places.invariant.so_far (omega arith))
    (behind-places c.args.first o (omega (arith, c.requires.first, ap length e)) (rw e c.places-others.ensures.each))
