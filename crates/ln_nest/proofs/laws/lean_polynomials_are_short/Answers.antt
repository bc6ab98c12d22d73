use Rattle.ln_nest.proofs.Terms.Shortest.{lean_count, lean_exponents}
use Rattle.ln_nest.proofs.laws.lean_polynomials_are_short.Goals as goal

pub returns-clause-count : goal.returns-clause-count
returns-clause-count c = lean_count

pub returns-clause-exponents : goal.returns-clause-exponents
returns-clause-exponents c = lean_exponents
