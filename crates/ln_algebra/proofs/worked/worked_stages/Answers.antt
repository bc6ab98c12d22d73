use Rattle.ln_algebra.proofs.Examples.WorkedValues.{stages_of_orientation, stages_of_squares, stages_past_a_param}
use Rattle.ln_algebra.proofs.worked.worked_stages.Goals as goal

pub returns-clause-squares : goal.returns-clause-squares
returns-clause-squares c = stages_of_squares

pub returns-clause-orientation : goal.returns-clause-orientation
returns-clause-orientation c = stages_of_orientation

pub returns-clause-past_a_param : goal.returns-clause-past_a_param
returns-clause-past_a_param c = stages_past_a_param
