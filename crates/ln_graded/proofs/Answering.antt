-- Proves the law of the verdicts of a program by total degree.
use Rattle.std.proofs.Common.{length, subst, sym}
use Rattle.ln_algebra.specs.Orders.{ByDegree}
use Rattle.ln_tree.specs.declared.shape.Shape.{Shape}
use Rattle.ln_tree.specs.Row.{InRange}
use Rattle.ln_poly.specs.Sparse.{terms_of}
use Rattle.ln_stage.proofs.Sights.Members.{lists-one}
use Rattle.ln_code.proofs.Verdicts.Machine.{programs-run}
use Rattle.ln_due.specs.Due.{Due}
use Rattle.ln_due.proofs.Verdicts.Composition.{verdicts-due}
use Rattle.ln_graded.specs.Graded.{GradedIsDue, GradedListsAreOne}

-- the verdict of a program by total degree is the one that a row in range requires in that order of infinitesimals
pub graded-due : GradedIsDue
graded-due s f p q e row does v g k inputs normal range filtering verdict =
    subst (λ (z : Shape). Due ByDegree does z.vars e row v) g.shape
    (verdicts-due ByDegree q e (terms_of (length s.vars) f) row does v (programs-run q k) (g.carries e inputs normal)
    (subst (λ (z : Shape). InRange z.sites z.vars row) (sym g.shape) range) filtering verdict)

-- a polynomial has at most one set of stage lists by total degree
pub one-list : GradedListsAreOne
one-list s f xs ys a b = lists-one ByDegree s.sites s.vars f xs ys s.kept a b
