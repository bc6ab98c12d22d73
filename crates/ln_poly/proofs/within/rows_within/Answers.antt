use Rattle.std.proofs.Common.{arith, rules}
use Rattle.ln_poly.proofs.Packing.Whole.{fit-at, packable-at}
use Rattle.ln_poly.proofs.within.rows_within.Goals as goal

pub product-requires : goal.product-requires
product-requires c =
    let p = packable-at 1 _ _ c.args.f.now c.args.g.now c.largest-a.result c.largest-b.result c.in-Some.fields.shifts c.terms-2.ensures.value
    c.terms-3.ensures.value c.largest-a.ensures.value c.largest-b.ensures.value c.largest-a.ensures.below c.largest-b.ensures.below
    c.requires.powers c.in-Some.ensures.size c.in-Some.ensures.fields in
    (search rules, (search rules, (c.requires.room, p)))

pub product-requires-in-Some-of : goal.product-requires-in-Some-of
product-requires-in-Some-of c =
    let p = packable-at 3 _ _ c.args.f.now c.args.g.now c.largest-a.result c.largest-b.result c.in-Some-of.fields.shifts c.terms-2.ensures.value
    c.terms-3.ensures.value c.largest-a.ensures.value c.largest-b.ensures.value c.largest-a.ensures.below c.largest-b.ensures.below
    c.requires.powers c.in-Some-of.ensures.size c.in-Some-of.ensures.fields in
    (search rules, (search rules, (c.requires.room, p)))

pub product-requires-in-Some-of-2 : goal.product-requires-in-Some-of-2
product-requires-in-Some-of-2 c =
    let p = packable-at 10 _ _ c.args.f.now c.args.g.now c.largest-a.result c.largest-b.result c.in-Some-of-2.fields.shifts c.terms-2.ensures.value
    c.terms-3.ensures.value c.largest-a.ensures.value c.largest-b.ensures.value c.largest-a.ensures.below c.largest-b.ensures.below
    c.requires.powers c.in-Some-of-2.ensures.size c.in-Some-of-2.ensures.fields in
    (search rules, (search rules, (c.requires.room, p)))

pub product-requires-in-Some-of-3 : goal.product-requires-in-Some-of-3
product-requires-in-Some-of-3 c =
    let p = packable-at 15 _ _ c.args.f.now c.args.g.now c.largest-a.result c.largest-b.result c.in-Some-of-3.fields.shifts c.terms-2.ensures.value
    c.terms-3.ensures.value c.largest-a.ensures.value c.largest-b.ensures.value c.largest-a.ensures.below c.largest-b.ensures.below
    c.requires.powers c.in-Some-of-3.ensures.size c.in-Some-of-3.ensures.fields in
    (search rules, (search rules, (c.requires.room, p)))

pub unreachable-requires : goal.unreachable-requires
unreachable-requires c = absurd (omega (
  arith,
  c.in-None.ensures.none (fit-at _ _ c.args.f.now c.args.g.now c.largest-a.result c.largest-b.result c.terms-2.ensures.value c.terms-3.ensures.value
      c.largest-a.ensures.value c.largest-b.ensures.value c.largest-a.ensures.rising c.largest-b.ensures.rising c.requires.powers),
))
