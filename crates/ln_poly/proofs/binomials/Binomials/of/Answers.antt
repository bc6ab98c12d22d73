use Rattle.std.proofs.Common.{arith, sym}
use Rattle.ln_algebra.proofs.Deriving.Derived.{binomial-above}
use Rattle.ln_poly.proofs.binomials.Binomials.of.Goals as goal

pub returns-then-n-k : goal.returns-then-n-k
returns-then-n-k c = sym (binomial-above c.args.n c.args.k (omega (arith, c.if-n-k.true)))
