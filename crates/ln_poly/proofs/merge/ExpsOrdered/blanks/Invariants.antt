use Rattle.std.proofs.Common.{◌≡◌, length}
use Rattle.ln_poly.proofs.merge.ExpsOrdered.blanks.Given as goal

abbrev pub invariant-terms : goal.invariant-terms
invariant-terms l = length l.out.items ≡ l._i
