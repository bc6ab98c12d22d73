-- In the loop of `are_below` the remaining pairs decide whether the variables of all pairs are below `n`.
use Rattle.ln_code.proofs.Exponents.{BelowDecides}
use Rattle.ln_code.proofs.exps.are_below.Given as goal

abbrev pub invariant-pairs : goal.invariant-pairs
invariant-pairs l = BelowDecides l.a l.n l.p-index
