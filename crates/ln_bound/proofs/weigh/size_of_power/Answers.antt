-- What the search leaves open in `size_of_power`.
use Rattle.std.proofs.Common.{arith}
use Rattle.ln_bound.proofs.Measures.Fitting.{heavier}
use Rattle.ln_bound.proofs.weigh.size_of_power.Goals as goal

pub returns-in-None : goal.returns-in-None
returns-in-None c = heavier c.args.a c.factors._k c.args.n c.factors.p (omega (arith, c.factors-test.true)) c.factors.invariant.0 c.in-None.ensures
