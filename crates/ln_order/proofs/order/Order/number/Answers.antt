use Rattle.std.proofs.Common.{◌<◌, ◌+◌, ◌*◌, length, drop, get_or, arith}
use Rattle.std.proofs.lemmas.List.{take_rest}
use Rattle.ln_order.specs.Orders.{smaller_behind}
use Rattle.ln_order.proofs.Listing.OrdersLemmas.{step_small, number_done}
use Rattle.ln_order.proofs.order.Order.number.Goals as goal

pub overflow_mul-number : goal.overflow_mul-number
overflow_mul-number c =
    let xs = c.places-places.result.now in
    let e = c.places-places.ensures.value in
    let i = c.places.i in
    let h : c.places.number * (length (drop (i + 1) xs) + 1) + smaller_behind (get_or xs i 0) (drop (i + 1) xs) < 121 =
    step_small xs c.places.number i (rw e c.places-places.ensures.few) (rw e c.places-places.ensures.each) (omega arith) c.places.invariant in
    let k : c.places.number * (length (drop (i + 1) xs) + 1) < 121 = omega arith in
    rw (take_rest xs (i + 1)) (omega (arith, k))

pub overflow_add-number-in-places : goal.overflow_add-number-in-places
overflow_add-number-in-places c =
    let xs = c.places-places.result.now in
    let e = c.places-places.ensures.value in
    let i = c.places.i in
    let h : c.places.number * (length (drop (i + 1) xs) + 1) + smaller_behind (get_or xs i 0) (drop (i + 1) xs) < 121 =
    step_small xs c.places.number i (rw e c.places-places.ensures.few) (rw e c.places-places.ensures.each) (omega arith) c.places.invariant in
    rw (c.smaller.ensures, take_rest xs (i + 1)) (omega (arith, h))

pub returns : goal.returns
returns c =
    let e = c.places-places.ensures.value in
    rw (← e) (number_done c.places-places.result.now c.places.number c.places.i (rw e c.places-places.ensures.few)
    (rw e c.places-places.ensures.each) c.places-test.false c.places.invariant)
