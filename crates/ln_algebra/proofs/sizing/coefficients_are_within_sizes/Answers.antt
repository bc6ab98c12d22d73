use Rattle.ln_algebra.proofs.Bounding.Sizes.{running_size, sum_running, sum_size}
use Rattle.ln_algebra.proofs.sizing.coefficients_are_within_sizes.Goals as goal

pub returns-clause-running : goal.returns-clause-running
returns-clause-running c = sum_running

pub returns-clause-size : goal.returns-clause-size
returns-clause-size c = sum_size

pub returns-clause-between : goal.returns-clause-between
returns-clause-between c = running_size
