use Rattle.ln_nest.proofs.Forms.Nests.{nested_up, nested_ranges, nested_sizes, nested_sound}
use Rattle.ln_nest.proofs.laws.nested_forms_stay_within.Goals as goal

pub returns-clause-weights : goal.returns-clause-weights
returns-clause-weights c = nested_up

pub returns-clause-ranges : goal.returns-clause-ranges
returns-clause-ranges c = nested_ranges

pub returns-clause-sizes : goal.returns-clause-sizes
returns-clause-sizes c = nested_sizes

pub returns-clause-sound : goal.returns-clause-sound
returns-clause-sound c = nested_sound
