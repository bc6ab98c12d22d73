use Rattle.ln_algebra.proofs.Ordering.Admissible.{both-admissible}
use Rattle.ln_algebra.proofs.Walking.Along.{sign-along-in}
use Rattle.ln_algebra.proofs.Walking.Cut.{first-stage-in, stage-first-in}
use Rattle.ln_algebra.specs.Orders.{Before}
use Rattle.ln_algebra.proofs.orders.the_cut_in_either.Goals as goal

pub returns-clause-first : goal.returns-clause-first
returns-clause-first c = λ rank n sites e x a below. first-stage-in n sites (Before rank sites) x e below a

pub returns-clause-found : goal.returns-clause-found
returns-clause-found c =
    λ rank n sites e x a below differ. stage-first-in n sites (Before rank sites) x e below (both-admissible rank n sites differ).transitive a

pub returns-clause-nothing : goal.returns-clause-nothing
returns-clause-nothing c = λ rank n sites e x below zeros a first. first.nonzero (zeros a (first-stage-in n sites (Before rank sites) x e below a first))

pub returns-clause-sign : goal.returns-clause-sign
returns-clause-sign c = λ rank n sites e x list below differ. sign-along-in n sites (Before rank sites) (both-admissible rank n sites differ) x e below list
