use Rattle.std.proofs.Common.{FitsSigned, ◌<◌, ◌≤◌, ◌*◌, pos, arith, rules, length, slice_index_or, unsigned_abs}
use Rattle.std.proofs.lemmas.Int.{to_z-of_z}
use mir.Syntax.{w64, w128}
use Rattle.ln_bound.specs.Light.{most}
use Rattle.ln_bound.specs.Value.{weights}
use Rattle.ln_tree.specs.Exps.{IsAbove, IsRising}
use Rattle.ln_tree.specs.Row.{values}
use Rattle.ln_tree.proofs.Powers.{small-at}
use Rattle.ln_tree.proofs.KeptLemmas.{within_length}
use Rattle.ln_poly.specs.Weight.{pairs_weight}
use Rattle.ln_poly.proofs.Evaluations.Summing.{pair-within, product-end, product-on, product-room}
use Rattle.ln_poly.proofs.Loads.Weighing.{variable-at}
use Rattle.ln_poly.proofs.values.product.Goals as goal

pub bounds-row-from : goal.bounds-row-from
bounds-row-from c =
    let ps = c.pairs-pairs.result.now in
    let above : IsAbove ps (length c.args.s.now.vars) = rw c.pairs-pairs.ensures.value c.requires.below in
    omega (
      arith,
      c.from.ensures,
      variable-at (length c.args.s.now.vars) ps c.pairs.p-index above (omega (arith, c.pairs-test.true)),
      within_length c.args.s.now.vars c.args.row.now c.requires.row,
    )

pub with_pair-z-requires-clause-small : goal.with_pair-z-requires-clause-small
with_pair-z-requires-clause-small c =
    let ps = c.pairs-pairs.result.now in
    let rising : IsRising ps = rw c.pairs-pairs.ensures.value c.pairs-pairs.ensures.rising in
    small-at ps c.pairs.p-index rising (omega (arith, c.pairs-test.true))

pub with_pair-z-requires-clause-within : goal.with_pair-z-requires-clause-within
with_pair-z-requires-clause-within c =
    let ps = c.pairs-pairs.result.now in
    let above : IsAbove ps (length c.args.s.now.vars) = rw c.pairs-pairs.ensures.value c.requires.below in
    let rising : IsRising ps = rw c.pairs-pairs.ensures.value c.pairs-pairs.ensures.rising in
    omega (
      arith,
      c.exponent_of.ensures.value,
      pair-within (length c.args.s.now.vars) ps c.args.t.now.0 c.args.a.now c.pairs.p-index c.pairs-pairs.ensures.value rising above
          (omega (arith, c.pairs-test.true)) c.requires.covered,
    )

pub with_pair-z-requires-clause-room : goal.with_pair-z-requires-clause-room
with_pair-z-requires-clause-room c =
    let ps = c.pairs-pairs.result.now in
    let above : IsAbove ps (length c.args.s.now.vars) = rw c.pairs-pairs.ensures.value c.requires.below in
    let light : unsigned_abs c.args.t.now.1 * pairs_weight (weights c.args.s.now.vars) ps ≤ most = rw c.pairs-pairs.ensures.value c.requires.light in
    let fx : FitsSigned w64 (slice_index_or c.args.row.now c.from.result (pos 0)) = search rules in
    rw (to_z-of_z w64 (slice_index_or c.args.row.now c.from.result (pos 0)) fx, c.from.ensures) (product-room c.args.s.now.vars c.args.row.now
    c.args.a.now ps c.args.t.now.1 _ c.pairs.p-index (omega (arith, c.pairs-test.true)) c.requires.row above c.pairs.invariant light)

pub pairs-preserved : goal.pairs-preserved
pairs-preserved c =
    let ps = c.pairs-pairs.result.now in
    let above : IsAbove ps (length c.args.s.now.vars) = rw c.pairs-pairs.ensures.value c.requires.below in
    let rising : IsRising ps = rw c.pairs-pairs.ensures.value c.pairs-pairs.ensures.rising in
    let there : c.pairs.p-index < length ps = omega (arith, c.pairs-test.true) in
    let within = pair-within (length c.args.s.now.vars) ps c.args.t.now.0 c.args.a.now c.pairs.p-index c.pairs-pairs.ensures.value rising
    above there c.requires.covered in
    let fx : FitsSigned w64 (slice_index_or c.args.row.now c.from.result (pos 0)) = search rules in
    let fr : FitsSigned w128 c.with_pair-z.result = search rules in
    let e = rw (to_z-of_z w64 (slice_index_or c.args.row.now c.from.result (pos 0)) fx, c.from.ensures, c.exponent_of.ensures.value) at c.with_pair-z.ensures in
    rw (to_z-of_z w128 c.with_pair-z.result fr) (product-on c.args.s.now.vars c.args.row.now c.args.a.now ps c.args.t.now.1 _
    c.pairs.p-index there c.requires.row above c.pairs.invariant c.with_pair-z.result within e)

pub returns : goal.returns
returns c =
    let r = product-end c.args.s.now.vars (values c.args.row.now) c.args.a.now c.pairs-pairs.result.now c.args.t.now.1 _ c.pairs.p-index
    (omega (arith, c.pairs-test.false)) c.pairs.invariant in
    record { value = rw c.pairs-pairs.ensures.value at r.0; small = rw c.pairs-pairs.ensures.value at r.1 }
