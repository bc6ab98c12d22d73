use Rattle.ln_algebra.proofs.Ordering.Admissible.{both-admissible}
use Rattle.ln_algebra.proofs.Ordering.First.{all-first-in, nonzero-first-in}
use Rattle.ln_algebra.specs.Orders.{Before}
use Rattle.ln_algebra.proofs.orders.a_first_in_either.Goals as goal

pub returns-clause-nonzero : goal.returns-clause-nonzero
returns-clause-nonzero c = λ rank n sites e x b differ. nonzero-first-in n sites (Before rank sites) (both-admissible rank n sites differ) x e b

pub returns-clause-without_params : goal.returns-clause-without_params
returns-clause-without_params c =
    λ rank n sites e x m below differ all. all-first-in n sites (Before rank sites) (both-admissible rank n sites differ) x e below all m
