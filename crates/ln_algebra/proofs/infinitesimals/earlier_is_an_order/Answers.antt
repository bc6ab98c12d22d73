use Rattle.ln_algebra.proofs.Ordering.Order.{earlier-total, earlier-transitive}
use Rattle.ln_algebra.proofs.Ordering.Admissible.{earlier-plus, zeros-earliest}
use Rattle.ln_algebra.proofs.infinitesimals.earlier_is_an_order.Goals as goal

pub returns-clause-transitive : goal.returns-clause-transitive
returns-clause-transitive c = λ sites a b d differ. earlier-transitive sites differ a b d

pub returns-clause-total : goal.returns-clause-total
returns-clause-total c = λ n sites a b differ. earlier-total sites differ n a b

pub returns-clause-sums : goal.returns-clause-sums
returns-clause-sums c = earlier-plus

pub returns-clause-zero : goal.returns-clause-zero
returns-clause-zero c = λ n sites a differ. zeros-earliest n sites differ a
