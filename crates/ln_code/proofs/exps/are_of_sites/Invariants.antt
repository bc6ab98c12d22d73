-- In the loop of `are_of_sites` the remaining pairs decide whether all variables are coordinates of sites.
use Rattle.ln_code.proofs.Exponents.{SitesDecide}
use Rattle.ln_code.proofs.exps.are_of_sites.Given as goal

abbrev pub invariant-pairs : goal.invariant-pairs
invariant-pairs l = SitesDecide l.vars l.a l.p-index
