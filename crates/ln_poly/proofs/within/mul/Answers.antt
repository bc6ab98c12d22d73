use Rattle.std.proofs.Common.{Some}
use Rattle.ln_poly.proofs.TermLists.Products.{rows-product}
use Rattle.ln_poly.specs.Within.{IsWithin}
use Rattle.ln_poly.proofs.within.mul.Goals as goal

pub returns-clause-coefficients : goal.returns-clause-coefficients
returns-clause-coefficients c =
    let r : IsWithin c.args.f.now c.args.g.now _ (Some c.in-Some.h) = rw c.in-Some.is at c.in_ok-found.ensures in λ n m l. rows-product _ _ _ r.rows n m l
