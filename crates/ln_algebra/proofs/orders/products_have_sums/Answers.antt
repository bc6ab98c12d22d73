use Rattle.ln_algebra.proofs.Ordering.Admissible.{both-admissible}
use Rattle.ln_algebra.proofs.Ordering.Products.{product-first, product-first-sum, product-lacks, product-sign, zero-products}
use Rattle.ln_algebra.specs.Orders.{Before}
use Rattle.ln_algebra.proofs.orders.products_have_sums.Goals as goal

pub returns-clause-first : goal.returns-clause-first
returns-clause-first c = λ rank n sites x e es as' differ. product-first n sites (Before rank sites) (both-admissible rank n sites differ) x e es as'

pub returns-clause-none : goal.returns-clause-none
returns-clause-none c = λ rank n sites x e es a differ h. product-lacks n sites (Before rank sites) (both-admissible rank n sites differ) x e es h a

pub returns-clause-sum : goal.returns-clause-sum
returns-clause-sum c = λ rank n sites x e es a differ. product-first-sum n sites (Before rank sites) (both-admissible rank n sites differ) x e es a

pub returns-clause-sign : goal.returns-clause-sign
returns-clause-sign c = λ rank n sites x e es ss differ. product-sign n sites (Before rank sites) (both-admissible rank n sites differ) x e es ss

pub returns-clause-zero : goal.returns-clause-zero
returns-clause-zero c = zero-products
