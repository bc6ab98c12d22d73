use Rattle.ln_tree.proofs.Monomials.{before-less, is-before, products-kept}
use Rattle.ln_tree.proofs.laws.order_is_lexicographic.Goals as goal

pub returns-clause-first : goal.returns-clause-first
returns-clause-first c = λ a b r s. (is-before a b r s, before-less a b r s)

pub returns-clause-products : goal.returns-clause-products
returns-clause-products c = products-kept
