use Rattle.ln_poly.proofs.TermLists.Negating.{IsNegated}
use Rattle.ln_poly.proofs.arithmetic.negate.Given as goal

abbrev pub invariant-loop-i : goal.invariant-loop-i
invariant-loop-i l = IsNegated l.out.items l.initial.out.items l.i
