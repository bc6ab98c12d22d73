use Rattle.std.proofs.Common.{◌<◌, arith, length, refl, rules}
use Rattle.std.proofs.lemmas.List.Elements.{All-get_or}
use Rattle.ln_poly.specs.Packed.{weights}
use Rattle.ln_poly.specs.Words.{IsPlace}
use Rattle.ln_poly.proofs.Packing.Fields.{packed-end, packing-room, packing-small, packing-step}
use Rattle.ln_poly.proofs.fields.Fields.packed.Goals as goal

pub field-x-requires : goal.field-x-requires
field-x-requires g c =
    let k : c.from.result < 256 = search rules in
    let l : c.from.result < length c.args.self.now.shifts = omega (arith, k, c.args.self.now.long) in
    let there : c.pairs.p-index < length c.args.pairs.now = omega (arith, c.pairs-test.true) in
    let place = All-get_or (IsPlace g.row.N) c.args.self.now.shifts c.from.result 0 l c.args.self.now.places in
    let small = packing-small c.args.self.now.shifts c.args.pairs.now c.pairs.p-index c.pairs.n _ c.from.result _ c.pairs.invariant there refl
    c.from.ensures l refl in
    let room = packing-room c.args.self.now.shifts c.args.pairs.now c.pairs.p-index c.pairs.n _ c.from.result _ c.pairs.invariant there refl
    c.from.ensures l refl g.row.N _ c.requires.low refl in
    (search rules, (place, (small, omega (arith, room))))

pub sum-n-requires : goal.sum-n-requires
sum-n-requires g c =
    let k : c.from.result < 256 = search rules in
    let room = packing-room c.args.self.now.shifts c.args.pairs.now c.pairs.p-index c.pairs.n _ c.from.result _ c.pairs.invariant
    (omega (arith, c.pairs-test.true)) refl c.from.ensures (omega (arith, k, c.args.self.now.long)) refl g.row.N c.field-x.result c.requires.low
    c.field-x.ensures in
    (search rules, room)

pub pairs-preserved : goal.pairs-preserved
pairs-preserved g c =
    let k : c.from.result < 256 = search rules in
    rw c.sum-n.ensures (packing-step c.args.self.now.shifts c.args.pairs.now c.pairs.p-index c.pairs.n _ c.from.result _ c.pairs.invariant
    (omega (arith, c.pairs-test.true)) refl c.from.ensures (omega (arith, k, c.args.self.now.long)) refl c.field-x.result c.field-x.ensures)

pub returns : goal.returns
returns g c =
    packed-end (weights c.args.self.now.shifts) c.args.pairs.now c.pairs.p-index c.pairs.n c.pairs.invariant.whole (omega (arith, c.pairs-test.false))
