use Rattle.std.proofs.Common.{arith}
use Rattle.ln_bound.proofs.Measures.LetSteps.{lets_step, lets_finish}
use Rattle.ln_bound.proofs.size.fit_lets.Goals as goal

pub each-preserved : goal.each-preserved
each-preserved c =
    lets_step c.args.vars.now c.args.lets.now c.each.e-index c.e-item.result c.each.done c.as_slice.result.now c.push.new.self c.in_ok-t.t
    (omega (arith, c.each-test.true)) c.e-item.is c.each.invariant c.as_slice.ensures c.in_ok-t.ensures.tree c.in_ok-t.ensures.exact c.in_ok-push.ensures.ok

pub returns-clause-trees : goal.returns-clause-trees
returns-clause-trees c = (lets_finish c.args.vars.now c.args.lets.now c.each.e-index c.each.done (omega (arith, c.each-test.false)) c.each.invariant).0

pub returns-clause-exact : goal.returns-clause-exact
returns-clause-exact c = (lets_finish c.args.vars.now c.args.lets.now c.each.e-index c.each.done (omega (arith, c.each-test.false)) c.each.invariant).1
