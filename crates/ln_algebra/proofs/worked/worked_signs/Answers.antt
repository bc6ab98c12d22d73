use Rattle.ln_algebra.proofs.Examples.WorkedValues.{sign_past_a_param, signs_of_orientation, signs_of_squares, signs_with_a_param}
use Rattle.ln_algebra.proofs.worked.worked_signs.Goals as goal

pub returns-clause-squares : goal.returns-clause-squares
returns-clause-squares c = signs_of_squares

pub returns-clause-orientation : goal.returns-clause-orientation
returns-clause-orientation c = signs_of_orientation

pub returns-clause-past_a_param : goal.returns-clause-past_a_param
returns-clause-past_a_param c = sign_past_a_param

pub returns-clause-with_a_param : goal.returns-clause-with_a_param
returns-clause-with_a_param c = signs_with_a_param
