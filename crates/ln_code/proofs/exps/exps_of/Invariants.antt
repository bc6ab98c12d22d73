-- In the loop of `exps_of` the list holds the pairs so far, which rise.
use Rattle.ln_code.proofs.Exponents.{Read}
use Rattle.ln_code.proofs.exps.exps_of.Given as goal

abbrev pub invariant-pairs : goal.invariant-pairs
invariant-pairs l = Read l.a l.p-index l.out
