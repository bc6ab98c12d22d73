use Rattle.std.proofs.Common.{◌<◌, ◌^◌, arith, length, rules}
use Rattle.std.proofs.lemmas.List.{length-take}
use Rattle.ln_poly.proofs.Packing.Loops.{halves-joined, sum-room}
use Rattle.ln_poly.proofs.packed.+products.Goals as goal

pub merge-requires : goal.merge-requires
merge-requires g t c =
    let n = length-take c.products-n.result c.products-n.new.out in
    let m = length-take c.products-m.result c.products-m.new.out in
    let e = c.halves-split.ensures in
    let room = sum-room _ _ c.args.f.now _ _ c.args.g.now c.products-n.ensures.products c.products-m.ensures.products e.whole c.requires.fit.room in
    record { long = omega (arith, n, m, c.products-n.ensures.few, c.products-m.ensures.few, c.requires.long, e.split, e.rows); room = room }

pub returns-clause-products : goal.returns-clause-products
returns-clause-products g t c =
    halves-joined _ _ _ c.args.f.now _ _ c.args.g.now c.products-n.ensures.products c.products-m.ensures.products c.merge.ensures.merge
    c.halves-split.ensures.whole

pub one_row-requires : goal.one_row-requires
one_row-requires g t c = (search rules, (c.if-f-lt2.true, (c.requires.long, c.requires.fit)))

pub returns-then-f-lt2-clause-products : goal.returns-then-f-lt2-clause-products
returns-then-f-lt2-clause-products g t c = c.one_row.ensures.products

pub returns-then-f-lt2-clause-few : goal.returns-then-f-lt2-clause-few
returns-then-f-lt2-clause-few g t c = c.one_row.ensures.few

pub returns-then-f-lt2-clause-long : goal.returns-then-f-lt2-clause-long
returns-then-f-lt2-clause-long g t c = c.one_row.ensures.long

pub halves-split-requires : goal.halves-split-requires
halves-split-requires g t c =
    let l : length c.args.out.now < 2 ^ 64 = search rules in
    (search rules, (omega (arith, c.if-f-lt2.false), (omega (arith, l, c.requires.long), c.requires.fit)))

pub split_at_mut-low-requires : goal.split_at_mut-low-requires
split_at_mut-low-requires g t c = omega (arith, c.halves-split.ensures.rows, c.requires.long_aside)

pub split_at_mut-front-requires : goal.split_at_mut-front-requires
split_at_mut-front-requires g t c = omega (arith, c.halves-split.ensures.rows, c.requires.long)

pub returns-clause-few : goal.returns-clause-few
returns-clause-few g t c =
    let n = length-take c.products-n.result c.products-n.new.out in
    let m = length-take c.products-m.result c.products-m.new.out in
    let e = c.halves-split.ensures in
    omega (arith, n, m, c.merge.ensures.few, c.products-n.ensures.few, c.products-m.ensures.few, e.split, e.rows)
