-- The remaining goals of `sub`.
use Rattle.std.proofs.Common.{ap, arith, subst, sym}
use Rattle.std.proofs.lemmas.Int.{ints}
use Rattle.std.proofs.lemmas.Result.{IfOk-weaker}
use Rattle.ln_poly.specs.Sparse.{AreBelow, coefficient_at, size_of}
use Rattle.ln_poly.proofs.TermLists.Negating.{below-negated, coefficient-negated, size-negated}
use Rattle.ln_poly.proofs.arithmetic.sub.Goals as goal

pub sum-requires : goal.sum-requires
sum-requires c = omega (arith, c.requires, ap size_of c.in_ok-minus.ensures, size-negated c.args.g.now)

pub returns-clause-coefficients : goal.returns-clause-coefficients
returns-clause-coefficients c =
    IfOk-weaker c.sum.result _ _ (λ h k n m. omega (
      arith,
      ints,
      k n m,
      ap (λ z. coefficient_at n z m) c.in_ok-minus.ensures,
      coefficient-negated n m c.args.g.now,
    )) c.sum.ensures.coefficients

pub returns-clause-below : goal.returns-clause-below
returns-clause-below c =
    IfOk-weaker c.sum.result _ _ (λ h k n a b. k n (subst (AreBelow n) (sym c.in_ok-minus.ensures) (below-negated n c.args.g.now b)) a) c.sum.ensures.below
