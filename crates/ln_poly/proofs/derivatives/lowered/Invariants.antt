use Rattle.ln_poly.specs.Derivative.{IsLowering}
use Rattle.ln_poly.proofs.derivatives.lowered.Given as goal

abbrev pub invariant-pairs : goal.invariant-pairs
invariant-pairs l = IsLowering l.out l.pairs l.v l.n l.p-index
