use Rattle.ln_factor.proofs.Answered.{product-perturbed}
use Rattle.ln_factor.proofs.product.product_row.Goals as goal

pub returns-clause-perturbed : goal.returns-clause-perturbed
returns-clause-perturbed c = rw c.product_of.ensures
    (product-perturbed c.args.ps.now c.args.which.now c.args.r.now c.fill.new.out c.requires.places c.requires.row
    c.fill.ensures.verdicts)
