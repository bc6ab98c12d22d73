use Rattle.ln_algebra.proofs.Ordering.Unique.{first-unique, sign-unique}
use Rattle.ln_algebra.proofs.infinitesimals.first_is_unique.Goals as goal

pub returns-clause-vector : goal.returns-clause-vector
returns-clause-vector c = first-unique

pub returns-clause-sign : goal.returns-clause-sign
returns-clause-sign c = sign-unique
