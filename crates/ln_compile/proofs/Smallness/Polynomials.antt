-- The normal polynomial of a predicate that has no fault.
use Rattle.std.proofs.Common.{length, Some, None}
use Rattle.std.specs.Prelude.{IfNone, IfSome, Option}
use Rattle.ln_tree.specs.declared.pred.Pred.{Pred}
use Rattle.ln_tree.specs.Table.{PredOf, pred_of}
use Rattle.ln_poly.specs.Expansion.{IsNormal}
use Rattle.ln_poly.specs.Sparse.{Sparse}
use Rattle.ln_stage.specs.declared.symmetry.Symmetry.{Symmetry}
use Rattle.ln_stage.specs.Accepted.{IsExpanded}
use Rattle.ln_stage.specs.Symmetry.{HasSymmetry, LacksSymmetry}
use Rattle.ln_stage.proofs.Accepting.{is-some, light-whole}
use Rattle.ln_compile.specs.Accepted.{root_of}
use Rattle.ln_compile.specs.Polynomial.{IsPolynomialOf}
use Rattle.ln_compile.specs.Symmetry.{IsSymmetryOf}

-- the normal polynomial of a predicate without a fault isn't 0 and is within the limits of terms, degrees and weight
pub is-polynomial : (p : PredOf) (f : Sparse) → IsExpanded p f → IsPolynomialOf p f
is-polynomial p f e = record {
  normal = e.normal;
  some = is-some p f e.sound e.normal;
  few = e.terms;
  degrees = e.degrees;
  weight = light-whole p f e.sound e.normal;
}

-- the symmetry of that polynomial is that of the predicate
pub symmetry-is : (p : Pred) (f : Sparse) (o : Option Symmetry) → IsNormal (length p.shape.vars) (root_of (pred_of p)) f
    → IfSome o (λ y. HasSymmetry p.shape.sites p.shape.vars y f) → IfNone o ((y : Symmetry) → LacksSymmetry p.shape.sites p.shape.vars y f)
    → IsSymmetryOf (pred_of p) o
symmetry-is p f (Some y) normal found none = found (root_of (pred_of p)) normal
symmetry-is p f None normal found none = λ y. none y (root_of (pred_of p)) normal
