use Rattle.std.proofs.Common.{arith}
use Rattle.ln_poly.proofs.Loads.Weighing.{scaled-heavy, scaled-step}
use Rattle.ln_poly.proofs.weights.scaled.Goals as goal

pub returns-in_default : goal.returns-in_default
returns-in_default c =
    let over = c.if-q-le-MOST.false in
    let q = c.in-Some.ensures in
    scaled-heavy c.args.w c.args.m c.factors._k c.args.e c.factors.p c.requires.some (omega (arith, c.factors-test.true)) c.factors.invariant.0
    (omega (arith, over, q))

pub returns-in_default-2 : goal.returns-in_default-2
returns-in_default-2 c = scaled-heavy c.args.w c.args.m c.factors._k c.args.e c.factors.p c.requires.some
    (omega (arith, c.factors-test.true)) c.factors.invariant.0 (omega (arith, c.in_default.ensures))

pub factors-preserved : goal.factors-preserved
factors-preserved c = (
  scaled-step c.args.w c.args.m c.factors._k c.factors.p c.in-Some.q c.factors.invariant.0 (omega (arith, c.in-Some.ensures)),
  omega (arith, c.if-q-le-MOST.true),
)
