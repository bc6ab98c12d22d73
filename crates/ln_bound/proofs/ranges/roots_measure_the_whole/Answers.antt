use Rattle.ln_bound.proofs.Trees.Whole.{last_measure, whole_range, whole_value, whole_weight}
use Rattle.ln_bound.proofs.ranges.roots_measure_the_whole.Goals as goal

pub returns-clause-value : goal.returns-clause-value
returns-clause-value c = whole_value

pub returns-clause-weight : goal.returns-clause-weight
returns-clause-weight c = whole_weight

pub returns-clause-range : goal.returns-clause-range
returns-clause-range c = whole_range

pub returns-clause-last : goal.returns-clause-last
returns-clause-last c = last_measure
