use Rattle.ln_bound.proofs.Trees.Plain.{plain}
use Rattle.ln_bound.proofs.Trees.Values.{value-inlined}
use Rattle.ln_bound.proofs.laws.values_are_coefficients.Goals as goal

pub returns-clause-plain : goal.returns-clause-plain
returns-clause-plain c = plain

pub returns-clause-lets : goal.returns-clause-lets
returns-clause-lets c = value-inlined
