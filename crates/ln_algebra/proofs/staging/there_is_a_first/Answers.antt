use Rattle.ln_algebra.proofs.Ordering.First.{all-first, nonzero-first}
use Rattle.ln_algebra.proofs.staging.there_is_a_first.Goals as goal

pub returns-clause-nonzero : goal.returns-clause-nonzero
returns-clause-nonzero c = λ n sites e x b differ. nonzero-first n sites x e differ b

pub returns-clause-without_params : goal.returns-clause-without_params
returns-clause-without_params c = all-first
