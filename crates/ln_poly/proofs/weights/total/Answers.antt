use Rattle.std.proofs.Common.{arith, sym}
use Rattle.ln_poly.specs.Weight.{grown}
use Rattle.ln_poly.proofs.Loads.Weighing.{heavy-end, sum-end, total-more, total-nil}
use Rattle.ln_poly.proofs.weights.total.Goals as goal

pub terms-init : goal.terms-init
terms-init c = (sym (total-nil _), omega arith)

pub returns-in_default : goal.returns-in_default
returns-in_default c =
    let over = c.if-w-sum.false in
    let w = c.in-Some.ensures in
    heavy-end c.args.more _ _ _ _ c.terms.t-index c.t-item.result c.terms.sum c.as_slice-vars.ensures c.terms-f.ensures.value c.requires
    (omega arith) c.t-item.is c.terms.invariant.0 (omega (arith, over, w.0, c.terms.invariant.1))

pub returns-in_default-2 : goal.returns-in_default-2
returns-in_default-2 c =
    heavy-end c.args.more _ _ _ _ c.terms.t-index c.t-item.result c.terms.sum c.as_slice-vars.ensures c.terms-f.ensures.value c.requires
    (omega arith) c.t-item.is c.terms.invariant.0 (omega (arith, c.in_default.ensures))

pub terms-preserved : goal.terms-preserved
terms-preserved c =
    let w = c.in-Some.ensures in (
      omega (
        arith,
        w.0,
        c.terms.invariant.0,
        total-more (grown c.args.more c.as_slice-vars.result.now) c.terms-f.result.now c.terms.t-index c.t-item.result (omega arith) c.t-item.is,
      ),
      omega (arith, c.if-w-sum.true, c.terms.invariant.1),
    )

pub returns : goal.returns
returns c = (
  sum-end c.args.more _ _ _ _ c.terms.t-index c.terms.sum c.as_slice-vars.ensures c.terms-f.ensures.value c.requires
      (omega (arith, c.terms-test.false)) c.terms.invariant.0,
  c.terms.invariant.1,
)
