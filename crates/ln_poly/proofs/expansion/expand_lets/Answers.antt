use Rattle.std.proofs.Common.{arith}
use Rattle.std.proofs.lemmas.Result.{err_from_is_err_and}
use Rattle.ln_poly.proofs.Expansions.Lets.{lets-step, lets-stop}
use Rattle.ln_poly.proofs.expansion.expand_lets.Goals as goal

pub returns-in_err-f-clause-err : goal.returns-in_err-f-clause-err
returns-in_err-f-clause-err c =
    let p = err_from_is_err_and c.from_residual.result c.from_residual.ensures.1 in
    rw (p.1, p.2) (lets-stop c.args.vars.now c.args.lets.now c.each.j c.index-lets-j.result c.each.done c.in_err-f.field-0.0
    (omega (arith, c.each-test.true)) c.index-lets-j.is c.each.invariant c.in_err-f.ensures.err)

pub each-preserved : goal.each-preserved
each-preserved c = lets-step c.args.vars.now c.args.lets.now c.each.j c.index-lets-j.result c.each.done c.push.new.self c.in_ok-f.f
    (omega (arith, c.each-test.true)) c.index-lets-j.is c.each.invariant c.in_ok-f.ensures.ok c.in_ok-push.ensures.ok
