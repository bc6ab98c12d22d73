-- Accepted predicates, with their normal polynomials and the stages of these.
use Rattle.std.specs.Prelude.{◌≤◌, All, length}
use Rattle.ln_algebra.specs.Vector.{total_degree}
use Rattle.ln_tree.specs.declared.pred.Pred.{Pred}
use Rattle.ln_tree.specs.Exps.{vector}
use Rattle.ln_tree.specs.Table.{PredOf, pred_of}
use Rattle.ln_poly.specs.Expansion.{IsNormal}
use Rattle.ln_poly.specs.OfPred.{root_of}
use Rattle.ln_poly.specs.Sparse.{Sparse}
use Rattle.ln_stage.specs.Sound.{IsSound}
use Rattle.ln_stage.specs.declared.accepted.Basis.{Basis}
use Rattle.ln_stage.specs.Staged.{AreStagesOf, Staged}

-- f is the normal polynomial of a predicate without a fault; it has at most 1,024 terms, each of a total degree of at most 126
pub record IsExpanded (p : PredOf) (f : Sparse) : Type 0 where
  pub sound : IsSound p
  pub normal : IsNormal (length p.vars) (root_of p) f
  pub terms : length f ≤ 1024
  pub degrees : All (λ t. total_degree (vector (length p.vars) t.0) ≤ 126) f

-- the polynomial of a basis is that of the predicate, which has no fault, and its stages are those of the polynomial
pub record IsBasis (p : PredOf) (b : Basis) : Type 0 where
  pub expanded : IsExpanded p b.poly
  pub stages : AreStagesOf p.sites p.vars b.poly b.stages

-- a predicate, a polynomial and stages
pub record AcceptedOf : Type 0 where
  pub pred : Pred
  pub poly : Sparse
  pub stages : Staged

-- the polynomial and the stages are a basis of the predicate
abbrev pub IsAcceptedPred : AcceptedOf → Type 0
IsAcceptedPred a = IsBasis (pred_of a.pred) (record { poly = a.poly; stages = a.stages })
