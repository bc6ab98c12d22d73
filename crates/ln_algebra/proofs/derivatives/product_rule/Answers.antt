use Rattle.ln_algebra.proofs.Deriving.Leibniz.{product-rule-coefficients}
use Rattle.ln_algebra.proofs.Expanded.Product.{product-rule}
use Rattle.ln_algebra.proofs.derivatives.product_rule.Goals as goal

pub returns-clause-coefficients : goal.returns-clause-coefficients
returns-clause-coefficients c = product-rule-coefficients

pub returns-clause-values : goal.returns-clause-values
returns-clause-values c = product-rule
