-- Stage lists of a polynomial and of an expression.
use Rattle.std.proofs.Common.{ℕ, List, sym, ◌∙◌}
use Rattle.ln_algebra.proofs.Ordering.Admissible.{earlier-admissible}
use Rattle.ln_algebra.proofs.Walking.Stages.{stage_list-to}
use Rattle.ln_algebra.proofs.Ordering.Unique.{stage_list-unique-by}
use Rattle.ln_algebra.specs.Earlier.{Earlier}
use Rattle.ln_algebra.specs.Stage.{IsMonomial}
use Rattle.ln_algebra.specs.Terms.{IsNormalOf}
use Rattle.ln_algebra.specs.Tree.{Tree}
use Rattle.ln_poly.specs.Sparse.{Sparse, coefficient_at, terms_of}
use Rattle.ln_stage.specs.StageList.{IsMonomialOf, ListIsUnique, ListsAreThoseOfTrees}

module _ (n : ℕ) (e : Tree) (f : Sparse) (h : IsNormalOf n e (terms_of n f)) where
  -- a monomial of the normal polynomial is one of the expression
  pub to_tree : (m : List ℕ) → IsMonomialOf n f m → IsMonomial n e m
  unfolding coefficient_at
  to_tree m k = record { size = k.size; nonzero = λ z. k.nonzero (h.coefficients m k.size ∙ z) }

  -- a monomial of the expression is one of its normal polynomial
  pub of_tree : (m : List ℕ) → IsMonomial n e m → IsMonomialOf n f m
  unfolding coefficient_at
  of_tree m k = record { size = k.size; nonzero = λ z. k.nonzero (sym (h.coefficients m k.size) ∙ z) }

-- the stage lists of a polynomial are those of each expression whose normal polynomial it is
pub lists-of-trees : ListsAreThoseOfTrees
lists-of-trees n sites e f list h = (
  stage_list-to (Earlier sites) n sites (IsMonomialOf n f) (IsMonomial n e) (to_tree n e f h) (of_tree n e f h) list,
  stage_list-to (Earlier sites) n sites (IsMonomial n e) (IsMonomialOf n f) (of_tree n e f h) (to_tree n e f h) list,
)

-- a polynomial has at most one stage list in an order of its sites
pub list-unique : ListIsUnique
list-unique n sites f xs ys d = stage_list-unique-by n sites (Earlier sites) (earlier-admissible n sites d) (IsMonomialOf n f) xs ys
