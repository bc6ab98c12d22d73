use Rattle.ln_stage.proofs.Testing.Variables.{LooksFrom}
use Rattle.ln_stage.proofs.symmetry.first_of_site.Given as goal

abbrev pub invariant-variables : goal.invariant-variables
invariant-variables l = LooksFrom l.vars l.j l.v
