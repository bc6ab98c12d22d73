use Rattle.std.proofs.Common.{length, take}
use Rattle.ln_poly.specs.Derivative.{IsDerivative}
use Rattle.ln_poly.proofs.derivatives.derive_by.Given as goal

abbrev pub invariant-pairs : goal.invariant-pairs
invariant-pairs l = IsDerivative (length l.s.vars) l.f (take l.i l.pairs) l.h
