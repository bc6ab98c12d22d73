use Rattle.ln_algebra.proofs.Ordering.Admissible.{both-admissible}
use Rattle.ln_algebra.proofs.Ordering.Unique.{first-unique-in, sign-unique-in, stage_list-unique-in}
use Rattle.ln_algebra.specs.Orders.{Before}
use Rattle.ln_algebra.proofs.orders.one_answer_in_either.Goals as goal

pub returns-clause-vector : goal.returns-clause-vector
returns-clause-vector c = λ rank n sites x e a b differ. first-unique-in n sites (Before rank sites) (both-admissible rank n sites differ) x e a b

pub returns-clause-sign : goal.returns-clause-sign
returns-clause-sign c = λ rank n sites x e s t differ. sign-unique-in n sites (Before rank sites) (both-admissible rank n sites differ) x e s t

pub returns-clause-list : goal.returns-clause-list
returns-clause-list c = λ rank n sites e xs ys differ. stage_list-unique-in n sites (Before rank sites) (both-admissible rank n sites differ) e xs ys
