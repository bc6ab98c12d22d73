use Rattle.std.proofs.Common.{length}
use Rattle.ln_bound.specs.Value.{sizes}
use Rattle.ln_poly.specs.Derivative.{IsDeriving}
use Rattle.ln_poly.proofs.derivatives.derive.Given as goal

abbrev pub invariant-terms : goal.invariant-terms
invariant-terms l = IsDeriving l.out.items l.f (length l.s.vars) l.v l.n l.t-index (sizes l.s.vars)
