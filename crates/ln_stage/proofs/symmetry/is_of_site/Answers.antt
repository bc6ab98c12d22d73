use Rattle.ln_stage.proofs.Testing.Variables.{of_past, of_there}
use Rattle.ln_stage.proofs.symmetry.is_of_site.Goals as goal

pub returns-in-Some : goal.returns-in-Some
returns-in-Some c =
    of_there c.args.vars.now c.args.j c.args.v c.in-Some.i.now c.is_of.result c.in-Some.ensures.lookup.3.0 c.in-Some.ensures.lookup.1 c.is_of.ensures

pub returns-in-None : goal.returns-in-None
returns-in-None c = of_past c.args.vars.now c.args.j c.args.v c.in-None.ensures.lookup.3
