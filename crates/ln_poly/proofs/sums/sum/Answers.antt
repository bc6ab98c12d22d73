-- The remaining goals of `sum`.
use Rattle.std.proofs.Common.{ap, arith, ◌∙◌}
use Rattle.ln_tree.specs.Exps.{IsAbove, IsRising}
use Rattle.ln_poly.specs.Sparse.{size_of}
use Rattle.ln_poly.proofs.Sorting.Summing.{spread-size, sum-all, sum-coefficient, sum-size, sum-sorted}
use Rattle.ln_poly.proofs.sums.sum.Goals as goal

pub both-requires : goal.both-requires
both-requires c = omega (
  arith,
  c.requires,
  spread-size _ _ _ _ c.in_ok-more.ensures,
  ap size_of c.into_terms-terms.ensures.value,
  ap
      size_of c.terms.ensures.value,
)

pub nonzero-requires-clause-small : goal.nonzero-requires-clause-small
nonzero-requires-clause-small c = omega (
  arith,
  c.requires,
  sum-size _ _ _ _ _ _ _ c.into_terms-terms.ensures.value c.terms.ensures.value c.in_ok-more.ensures c.in_ok-out.ensures,
)

pub nonzero-requires-clause-rising : goal.nonzero-requires-clause-rising
nonzero-requires-clause-rising c = sum-all _ _ _ _ _ _ _ c.into_terms-terms.ensures.value c.terms.ensures.value c.in_ok-more.ensures c.in_ok-out.ensures
    IsRising c.into_terms-terms.ensures.form.rising c.terms.ensures.form.rising

pub nonzero-requires-clause-sorted : goal.nonzero-requires-clause-sorted
nonzero-requires-clause-sorted c = sum-sorted _ _ _ _ _ _ _ c.into_terms-terms.ensures.value c.terms.ensures.value c.in_ok-more.ensures
    c.in_ok-out.ensures c.into_terms-terms.ensures.form.sorted c.terms.ensures.form.sorted

pub returns-clause-coefficients : goal.returns-clause-coefficients
returns-clause-coefficients c = λ n m. c.nonzero.ensures.coefficients n m
    ∙ sum-coefficient _ _ _ _ _ _ _ c.into_terms-terms.ensures.value c.terms.ensures.value c.in_ok-more.ensures c.in_ok-out.ensures n m

pub returns-clause-size : goal.returns-clause-size
returns-clause-size c = omega (
  arith,
  c.nonzero.ensures.size,
  sum-size _ _ _ _ _ _ _ c.into_terms-terms.ensures.value c.terms.ensures.value c.in_ok-more.ensures c.in_ok-out.ensures,
)

pub returns-clause-below : goal.returns-clause-below
returns-clause-below c = λ n a b. c.nonzero.ensures.below n (sum-all _ _ _ _ _ _ _ c.into_terms-terms.ensures.value c.terms.ensures.value
    c.in_ok-more.ensures c.in_ok-out.ensures (λ e. IsAbove e n) a b)
