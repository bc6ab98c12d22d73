use Rattle.ln_top.proofs.GuaranteeLemmas.Worked.{collinear_is_plus, orientation_is_declared}
use Rattle.ln_top.proofs.laws.orientation_is_declared.Goals as goal

pub returns-clause-declared : goal.returns-clause-declared
returns-clause-declared c = orientation_is_declared

pub returns-clause-collinear : goal.returns-clause-collinear
returns-clause-collinear c = collinear_is_plus
