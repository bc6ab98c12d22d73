use Rattle.ln_algebra.proofs.Ordering.Admissible.{both-admissible, cancels}
use Rattle.ln_algebra.specs.Orders.{Before}
use Rattle.ln_algebra.proofs.orders.both_are_admissible.Goals as goal

pub returns-clause-orders : goal.returns-clause-orders
returns-clause-orders c = both-admissible

pub returns-clause-cancel : goal.returns-clause-cancel
returns-clause-cancel c = λ rank n sites a b d differ. cancels n sites (Before rank sites) (both-admissible rank n sites differ) a b d
