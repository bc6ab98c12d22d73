use Rattle.std.proofs.Common.{◌<◌, ◌+◌, arith}
use Rattle.std.specs.Prelude.{suc}
use Rattle.std.proofs.lemmas.List.{take_rest}
use Rattle.ln_order.proofs.Listing.PrefixLemmas.{added, done_small, done_there, step_small}
use Rattle.ln_order.proofs.prefix.prefix_number.Goals as goal

pub overflow_mul-number : goal.overflow_mul-number
overflow_mul-number c =
    let xs = c.places-places.result.now in
    let e = c.places-places.ensures.value in
    let i = c.places.i in
    let h : c.places.number + suc (added xs i) < 327 = step_small xs c.places.number i c.args.j (rw e c.places-places.ensures.few)
    (rw e c.places-places.ensures.each) (rw e c.requires) (omega arith) c.places.invariant in
    rw (c.smaller.ensures, c.tree_size.ensures, take_rest xs (i + 1)) (omega (arith, h))

pub overflow_add-number : goal.overflow_add-number
overflow_add-number c =
    let xs = c.places-places.result.now in
    let e = c.places-places.ensures.value in
    let i = c.places.i in
    let h : c.places.number + suc (added xs i) < 327 = step_small xs c.places.number i c.args.j (rw e c.places-places.ensures.few)
    (rw e c.places-places.ensures.each) (rw e c.requires) (omega arith) c.places.invariant in
    rw (c.smaller.ensures, c.tree_size.ensures, take_rest xs (i + 1)) (omega (arith, h))

pub overflow_add-number-in-places : goal.overflow_add-number-in-places
overflow_add-number-in-places c =
    let xs = c.places-places.result.now in
    let e = c.places-places.ensures.value in
    let i = c.places.i in
    let h : c.places.number + suc (added xs i) < 327 = step_small xs c.places.number i c.args.j (rw e c.places-places.ensures.few)
    (rw e c.places-places.ensures.each) (rw e c.requires) (omega arith) c.places.invariant in
    rw (c.smaller.ensures, c.tree_size.ensures, take_rest xs (i + 1)) (omega (arith, h))

pub returns-clause-value : goal.returns-clause-value
returns-clause-value c =
    let e = c.places-places.ensures.value in
    rw (← e) (done_there c.places-places.result.now c.places.number c.places.i c.args.j (rw e c.places-places.ensures.few)
    (rw e c.places-places.ensures.each) (rw e c.requires) (omega arith) c.places.invariant)

pub returns-clause-small : goal.returns-clause-small
returns-clause-small c =
    let e = c.places-places.ensures.value in
    rw (← e) (done_small c.places-places.result.now c.places.number c.places.i c.args.j (rw e c.places-places.ensures.few)
    (rw e c.places-places.ensures.each) (rw e c.requires) (omega arith) c.places.invariant)
