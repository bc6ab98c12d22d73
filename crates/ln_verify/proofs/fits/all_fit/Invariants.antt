-- States the invariant of the loop of `all_fit`: the largest exponents of the variables so far fit.
use Rattle.std.proofs.Common.{ℕ, ◌+◌, ◌<◌, get_or}
use Rattle.ln_verify.proofs.fits.all_fit.Given as goal

abbrev pub invariant-vars : goal.invariant-vars
invariant-vars l = (u : ℕ) → u < l.v → get_or l.a u 0 + get_or l.b u 0 < 128
