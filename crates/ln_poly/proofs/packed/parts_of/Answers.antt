use Rattle.std.proofs.Common.{◌≡◌, ◌-◌, ◌*◌, ◌<◌, ◌≤◌, ◌^◌, ap, arith, length, rules, subst, sym}
use Rattle.std.proofs.lemmas.Bool.{iff_false}
use Rattle.ln_poly.specs.Keyed.{AreAllProducts, Keyed}
use Rattle.ln_poly.proofs.Packing.Loops.{part-fit}
use Rattle.ln_poly.proofs.Packing.Whole.{given-up-at, next-long, next-room, parts-begin, parts-end, parts-next, size-small}
use Rattle.ln_poly.proofs.packed.parts_of.Goals as goal

pub grow-requires : goal.grow-requires
grow-requires g c = (search rules, (search rules, size-small c.args.f.now c.args.g.now _ c.min.ensures c.requires.short))

pub parts-init : goal.parts-init
parts-init g c = parts-begin _ _ _ _ _ _ _ c.new-done.ensures.items c.min.ensures c.in_ok-grow.ensures.out c.in_ok-grow.ensures.aside

pub with_rows-requires : goal.with_rows-requires
with_rows-requires g c =
    let e = c.end_of-j.ensures in
    let i = c.parts.invariant in
    let long = next-long _ _ _ c.parts.i c.end_of-j.result _ c.between.ensures e.within e.few i.long in
    let aside = next-long _ _ _ c.parts.i c.end_of-j.result _ c.between.ensures e.within e.few i.long_aside in
    let fit = part-fit _ c.parts.i c.end_of-j.result _ _ _ c.between.ensures c.requires.fit in
    let further : c.parts.i ≤ c.end_of-j.result = omega (arith, e.further) in
    let room = next-room _ _ _ _ c.parts.i c.end_of-j.result i.products c.between.ensures further c.requires.fit.room in
    (search rules, (search rules, (long, (aside, (fit, rw c.as_mut_slice.ensures.value room)))))

pub parts-preserved : goal.parts-preserved
parts-preserved g c =
    let l : c.len.result ≡ length c.in_ok-next.next.items = search rules in
    parts-next _ _ _ _ _ _ _ _ _ _ _ _ _ c.parts.invariant
    (λ e p. c.in_ok-next.ensures.rows e (subst (λ (z : Keyed). AreAllProducts z e c.args.g.now) (sym c.as_mut_slice.ensures.value) p)) c.between.ensures
    c.end_of-j.ensures.further c.end_of-j.ensures.within c.in_ok-next.ensures.long c.in_ok-next.ensures.long_aside l
    (iff_false c.are_too_many.ensures c.if-are_too_many.false)

pub returns-then-are_too_many : goal.returns-then-are_too_many
returns-then-are_too_many g c =
    let l : c.len.result ≡ length c.in_ok-next.next.items = search rules in
    let small : c.len.result < 2 ^ 64 = search rules in
    given-up-at _ _ _ _ _ _ _ _ _ c.parts.invariant.products
    (λ e p. c.in_ok-next.ensures.rows e (subst (λ (z : Keyed). AreAllProducts z e c.args.g.now) (sym c.as_mut_slice.ensures.value) p)) c.between.ensures
    c.end_of-j.ensures.further l (c.are_too_many.ensures.0 c.if-are_too_many.true) small

pub overflow_sub-f : goal.overflow_sub-f
overflow_sub-f g c = c.end_of-j.ensures.within

pub end_of-j-requires : goal.end_of-j-requires
end_of-j-requires g c = c.parts-test.true

pub between-requires : goal.between-requires
between-requires g c = (search rules, (omega (arith, c.end_of-j.ensures.further), c.end_of-j.ensures.within))

pub parts-smaller : goal.parts-smaller
parts-smaller g c = omega (arith, c.end_of-j.ensures.further, c.end_of-j.ensures.within)

pub returns : goal.returns
returns g c =
    let none : length c.args.f.now - c.parts.i ≡ 0 = omega (arith, c.parts-test.false) in (
      parts-end _ _ _ _ _ _ _ c.parts.invariant (omega (arith, c.parts-test.false)),
      omega (arith, c.parts.invariant.few, ap (λ z. z * length c.args.g.now) none),
    )
