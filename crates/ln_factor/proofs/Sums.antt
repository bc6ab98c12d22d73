-- The laws of products on a row in range.
use Rattle.std.proofs.Common.{length}
use Rattle.ln_algebra.proofs.Ordering.Admissible.{both-admissible}
use Rattle.ln_algebra.proofs.Ordering.Products.{product-first, product-first-sum, product-sign, zero-products}
use Rattle.ln_algebra.specs.Orders.{Before}
use Rattle.ln_tree.specs.Row.{values}
use Rattle.ln_order.specs.Sites.{row_sites}
use Rattle.ln_order.proofs.Signs.RowSigns.{rows-differ}
use Rattle.ln_factor.specs.Law.{FirstsAdd, FirstsAreSums, SignsAreProducts, ZeroWhereOneIs}

-- on a row in range the sum of the factors' first vectors is the first vector of the product
pub firsts-add : FirstsAdd
firsts-add rank s row e es as' within firsts =
    (product-first (length s.vars) (row_sites s.vars row.index) (Before rank (row_sites s.vars row.index))
    (both-admissible rank (length s.vars) (row_sites s.vars row.index) (rows-differ s row within)) (values row.values) e es as' firsts).0

-- on a row in range a first vector of the product is the sum of first vectors of the factors
pub firsts-are-sums : FirstsAreSums
firsts-are-sums rank s row e es a within first =
    product-first-sum (length s.vars) (row_sites s.vars row.index) (Before rank (row_sites s.vars row.index))
    (both-admissible rank (length s.vars) (row_sites s.vars row.index) (rows-differ s row within)) (values row.values) e es a first

-- on a row in range the product of the factors' perturbed signs is the perturbed sign of the product
pub signs-are-products : SignsAreProducts
signs-are-products rank s row e es zs within signs =
    product-sign (length s.vars) (row_sites s.vars row.index) (Before rank (row_sites s.vars row.index))
    (both-admissible rank (length s.vars) (row_sites s.vars row.index) (rows-differ s row within)) (values row.values) e es zs signs

-- a product of signs is 0 exactly where one of them is
pub zero-where-one-is : ZeroWhereOneIs
zero-where-one-is zs = ((zero-products zs).1, (zero-products zs).0)
