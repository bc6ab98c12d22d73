use Rattle.std.proofs.Common.{◌≡◌, true, false, arith, rules}
use Rattle.ln_stage.proofs.Testing.Variables.{looked_all, looks_here, looks_on}
use Rattle.ln_stage.proofs.symmetry.first_of_site.Goals as goal

pub returns-then-is_of_site-clause-is : goal.returns-then-is_of_site-clause-is
returns-then-is_of_site-clause-is c =
    let q : c.is_of_site.result ≡ true = search rules in
    looks_here c.args.vars.now c.args.j c.variables.v c.is_of_site.result (omega arith) c.is_of_site.ensures q
    c.variables.invariant

pub variables-preserved : goal.variables-preserved
variables-preserved c =
    let q : c.is_of_site.result ≡ false = search rules in
    looks_on c.args.vars.now c.args.j c.variables.v c.is_of_site.result (omega arith) c.is_of_site.ensures q
    c.variables.invariant

pub returns-clause-is : goal.returns-clause-is
returns-clause-is c = looked_all c.args.vars.now c.args.j c.variables.v (omega arith) (omega arith) c.variables.invariant
