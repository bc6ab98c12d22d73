use Rattle.ln_bound.proofs.Soundness.RangeLaws.{in_ranges, range-inlined, row_lets, row_tree}
use Rattle.ln_bound.proofs.Measures.RoomLaws.{pred_fits}
use Rattle.ln_bound.proofs.ranges.values_are_in_ranges.Goals as goal

pub returns-clause-lets : goal.returns-clause-lets
returns-clause-lets c = row_lets

pub returns-clause-tree : goal.returns-clause-tree
returns-clause-tree c = row_tree

pub returns-clause-inlined : goal.returns-clause-inlined
returns-clause-inlined c = range-inlined

pub returns-clause-fit : goal.returns-clause-fit
returns-clause-fit c = pred_fits

pub returns-clause-in_range : goal.returns-clause-in_range
returns-clause-in_range c = in_ranges
