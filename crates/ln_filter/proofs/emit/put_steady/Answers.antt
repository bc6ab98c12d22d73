use Rattle.ln_bound.specs.View.{typed}
use Rattle.ln_filter.proofs.Operations.Writes.{steady_put}
use Rattle.ln_filter.proofs.emit.put_steady.Goals as goal

pub returns-in_ok-a-in-Some : goal.returns-in_ok-a-in-Some
returns-in_ok-a-in-Some c = steady_put c.args.vars.now c.args.lets.now (typed c.args.t.now) _ _ c.in-Some.field-0 c.in_ok-a-in-Some.a
    c.requires.kept c.in-Some.ensures c.in_ok-a-in-Some.ensures
