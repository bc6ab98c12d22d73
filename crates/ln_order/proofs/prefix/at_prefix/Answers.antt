use Rattle.std.proofs.Common.{◌≤◌, arith, rules, length, take}
use Rattle.std.proofs.lemmas.Option.{slice_get_within}
use Rattle.ln_order.specs.Places.{order_places}
use Rattle.ln_order.specs.Prefixes.{prefixes_of}
use Rattle.ln_order.proofs.Listing.PrefixLemmas.{read-is}
use Rattle.ln_order.proofs.prefix.at_prefix.Goals as goal

pub bounds-lists-prefix_number : goal.bounds-lists-prefix_number
bounds-lists-prefix_number c =
    let o = order_places c.args.o.now in
    omega (arith, c.requires.size, slice_get_within (prefixes_of (length o)) c.prefix_number.result (take c.args.j o) c.prefix_number.ensures.value)

pub returns : goal.returns
returns c =
    let o = order_places c.args.o.now in
    let few : length o ≤ 5 = search rules in
    read-is (length o) c.args.lists.now (take c.args.j o) c.prefix_number.result c.as_slice.result.now few c.requires.size c.prefix_number.ensures.value
    (rw (← c.as_slice.ensures) at c.index-lists-prefix_number.is)
