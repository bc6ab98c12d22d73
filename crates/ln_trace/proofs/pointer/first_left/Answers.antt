use Rattle.std.proofs.Common.{◌≡◌, ◌<◌, ◌≤◌, ◌+◌, ◌∷◌, ◌∙◌, ap, arith, length, take, refl, sym}
use Rattle.ln_order.specs.Places.{order_places}
use Rattle.ln_stage.specs.Staged.{segment_of}
use Rattle.ln_tree.specs.Exps.{Pairs}
use Rattle.ln_trace.specs.Left.{exps_at, numbers_at}
use Rattle.ln_trace.proofs.Premises.{left-behind, left-here}
use Rattle.ln_trace.proofs.pointer.first_left.Goals as goal

pub returns-then-at-segment : goal.returns-then-at-segment
returns-then-at-segment c =
    let st = c.args.st.now in
    let places = order_places c.args.o.now in
    let j = c.segments.j in
    let at = c.segments.at in
    let segment = c.segment-segment.result.now in
    let n : length c.places.result.now ≡ length (order_places c.args.o.now) = ap length c.places.ensures.value in
    let h : c.segments.j ≤ length (order_places c.args.o.now) = omega (arith, n, c.segments-test.true) in
    let l : c.segments.at < length c.segment-segment.result.now = omega (arith, c.if-at-segment.true) in
    let e = sym c.segments.invariant.same ∙ left-here st places segment j at 0 h c.segment-segment.ensures l in (
      ap (exps_at st) e ∙ ap (λ (y : Pairs). y ∷ exps_at st (numbers_at st places j (at + 1))) (sym c.exps-exps.ensures),
      record { sites = h; at = omega (arith, l, ap length c.segment-segment.ensures) },
    )

pub segments-preserved : goal.segments-preserved
segments-preserved c =
    let st = c.args.st.now in
    let places = order_places c.args.o.now in
    let j = c.segments.j in
    let at = c.segments.at in
    let segment = c.segment-segment.result.now in
    let n : length c.places.result.now ≡ length (order_places c.args.o.now) = ap length c.places.ensures.value in
    let h : c.segments.j ≤ length (order_places c.args.o.now) = omega (arith, n, c.segments-test.true) in
    let g : length c.segment-segment.result.now ≤ c.segments.at = omega (arith, c.if-at-segment.false) in
    let i : c.segments.at ≤ length (segment_of c.args.st.now (take c.segments.j (order_places c.args.o.now))) = c.segments.invariant.at (omega (arith, n, h)) in
    record {
      within = omega (arith, c.segments-test.true);
      at = λ k. omega arith;
      end = λ k. refl;
      same = sym (left-behind st places segment j at h c.segment-segment.ensures i g) ∙ c.segments.invariant.same;
    }
