use Rattle.std.proofs.Common.{rules}
use Rattle.ln_stage.proofs.Testing.Variables.{range_past, range_there}
use Rattle.ln_stage.proofs.symmetry.range_at.Goals as goal

pub returns-in-Some : goal.returns-in-Some
returns-in-Some c =
    range_there c.args.vars.now c.args.v c.in-Some.i.now _ _ (search rules) (search rules) c.in-Some.ensures.lookup.3.0 c.in-Some.ensures.lookup.1

pub returns-in-None : goal.returns-in-None
returns-in-None c = range_past c.args.vars.now c.args.v c.in-None.ensures.lookup.3
