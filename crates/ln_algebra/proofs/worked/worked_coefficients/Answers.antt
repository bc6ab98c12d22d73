use Rattle.ln_algebra.proofs.Examples.WorkedValues.{coefficient_of_py, six_terms_are_normal}
use Rattle.ln_algebra.proofs.worked.worked_coefficients.Goals as goal

pub returns-clause-of_py : goal.returns-clause-of_py
returns-clause-of_py c = coefficient_of_py

pub returns-clause-normal : goal.returns-clause-normal
returns-clause-normal c = six_terms_are_normal
