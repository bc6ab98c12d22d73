use Rattle.ln_filter.proofs.Truncation.Approximating.{numbers_stand, never_wrong}
use Rattle.ln_filter.proofs.laws.filter_is_never_wrong.Goals as goal

pub returns-clause-stand : goal.returns-clause-stand
returns-clause-stand c = numbers_stand

pub returns-clause-decided : goal.returns-clause-decided
returns-clause-decided c = never_wrong
