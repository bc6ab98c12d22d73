use Rattle.std.proofs.Common.{length}
use Rattle.ln_poly.proofs.packed.+products.Given as goal

abbrev pub decreases-products : goal.decreases-products
decreases-products g l = length l.f.now
