-- Sources that are accepted by the weights of their nodes: a narrower rule, in which each node of the source is tested by its
-- weight, in place of its range, its size and the weight of the whole.
use Rattle.std.specs.Prelude.{◌≡◌, true, ℕ, List, length, map}
use Rattle.std.specs.List.{AllByRecursion}
use Rattle.ln_base.specs.declared.span.Span.{Span}
use Rattle.ln_tree.specs.Fits.{is_fit, lets_fit}
use Rattle.ln_tree.specs.Formula.{tree}
use Rattle.ln_tree.specs.Table.{PredOf, TableOf}
use Rattle.ln_bound.specs.Light.{AreLight, weighed_pred}
use Rattle.ln_poly.specs.Expansion.{HaveFewTerms, IsZeroFault}
use Rattle.ln_parse.specs.Text.{TextOf}
use Rattle.ln_compile.specs.Accepted.{IsStagesFault, expanded_of, root_of}

-- the nodes of a predicate with their weights, in order of evaluation
abbrev pub weighed_of : PredOf → List (Span × ℕ)
weighed_of p = weighed_pred p.vars p.lets p.root

-- a predicate has no fault by weight: no node weighs more than 2^127 - 1, none has too many terms, the root isn't 0 however it is
-- perturbed, and it hasn't too many stages
pub record IsSoundByWeight (p : PredOf) : Type 0 where
  pub light : AreLight (weighed_of p)
  pub few : HaveFewTerms (length p.vars) (expanded_of p)
  pub nonzero : IsZeroFault (length p.vars) (root_of p) → ⊥
  pub staged : IsStagesFault p → ⊥

-- none of them has
abbrev pub AreSoundByWeight : List PredOf → Type 0
AreSoundByWeight = AllByRecursion IsSoundByWeight

-- the source has this table, and no predicate of it has a fault by weight
pub record AcceptedByWeight (bytes : List ℕ) (t : TableOf) : Type 0 where
  pub text : TextOf bytes t
  pub sound : AreSoundByWeight t.preds

-- the lets of a predicate and its root are expressions of the language over its variables, each let after the lets before it
pub record IsFitPred (p : PredOf) : Type 0 where
  pub lets : lets_fit (length p.vars) 0 (map (tree p.vars) p.lets) ≡ true
  pub root : is_fit (length p.vars) (length p.lets) (tree p.vars p.root) ≡ true
