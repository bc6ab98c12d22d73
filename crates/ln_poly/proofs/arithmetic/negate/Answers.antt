-- The remaining goals of `negate`.
use Rattle.std.proofs.Common.{◌<◌, arith, length}
use Rattle.ln_poly.specs.Sparse.{IsFactor}
use Rattle.ln_poly.proofs.TermLists.Negating.{negated-end, negated-factor, negated-step, turned, turned-fits}
use Rattle.ln_poly.proofs.arithmetic.negate.Goals as goal

pub loop-i-preserved : goal.loop-i-preserved
loop-i-preserved c =
    let t = c.index_mut-t.result.now in
    let h : c.loop-i.i < length c.args.out.now.items = omega (arith, c.loop-i.invariant.long, c.args.out.now.ok.0) in
    let f : IsFactor t.1 = negated-factor _ c.args.out.now.items c.loop-i.i t.0 t.1 c.loop-i.invariant h c.index_mut-t.ensures.value c.requires in
    negated-step _ _ _ t.0 t.1 _ c.loop-i.invariant h c.index_mut-t.ensures.value (turned t.1 f)

pub overflow_sub-t : goal.overflow_sub-t
overflow_sub-t c =
    let t = c.index_mut-t.result.now in
    let h : c.loop-i.i < length c.args.out.now.items = omega (arith, c.loop-i.invariant.long, c.args.out.now.ok.0) in
    turned-fits t.1 (negated-factor _ c.args.out.now.items c.loop-i.i t.0 t.1 c.loop-i.invariant h c.index_mut-t.ensures.value c.requires)

pub returns : goal.returns
returns c = negated-end _ _ c.loop-i.i c.loop-i.invariant (omega (arith, c.loop-i-test.false, c.len-i-end.ensures, c.args.out.now.ok.0))
