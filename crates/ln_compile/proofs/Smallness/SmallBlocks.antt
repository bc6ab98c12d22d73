-- What the blocks and the filter of an accepted predicate push is small.
use Rattle.std.proofs.Common.{◌≡◌, List, length, map, sym, ◌∙◌, Option, Some, None}
use Rattle.std.specs.Prelude.{IfSome}
use Rattle.ln_tree.specs.declared.pred.Pred.{Pred}
use Rattle.ln_tree.specs.Formula.{tree_of}
use Rattle.ln_tree.specs.Table.{pred_of}
use Rattle.ln_bound.specs.declared.fitted.Fitted.{Fitted}
use Rattle.ln_bound.specs.Light.{AreLight}
use Rattle.ln_bound.specs.Typed.{untyped}
use Rattle.ln_bound.specs.View.{typed}
use Rattle.ln_poly.specs.Expansion.{HaveFewTerms}
use Rattle.ln_bound.proofs.Soundness.KeptLaws.{trees_of_formulas}
use Rattle.ln_code.specs.Nodes.{IsNodeOf}
use Rattle.ln_code.specs.Part.{Code, FilterCode}
use Rattle.ln_due.specs.Small.{BlockPushesSmall, FilterPushesSmall}
use Rattle.ln_lower.specs.Nodes as lower
use Rattle.ln_filter.specs.Nodes as filter
use Rattle.ln_compile.specs.Accepted.{expanded_of, loaded_of}
use Rattle.ln_due.proofs.Derivatives.Blocks.{pushes-small}
use Rattle.ln_compile.proofs.Smallness.Pushing.{filter-pushes-small}
use Rattle.ln_compile.proofs.Smallness.SourceNodes.{source-small}

-- ---- the source's own block, and the filter
module _ (p : Pred) (lets : List Fitted) (root : Fitted) (l : map untyped (map typed lets) ≡ map (tree_of p.shape.vars) p.lets)
    (r : untyped (typed root) ≡ tree_of p.shape.vars p.root) (light : AreLight (loaded_of (pred_of p)))
    (few : HaveFewTerms (length p.shape.vars) (expanded_of (pred_of p))) where
  -- what the source's own block pushes is small
  pub own-pushes : (c : Code) → lower.PushNodes (IsNodeOf (map typed lets) (typed root)) (lower.pushed_by p.shape.vars c) → BlockPushesSmall p.shape.vars c
  own-pushes c nodes = pushes-small (length p.shape.vars) (IsNodeOf (map typed lets) (typed root)) (lower.pushed_by p.shape.vars c)
      (λ e v h. source-small p (map typed lets) (typed root) e v (l ∙ sym (trees_of_formulas p.shape.vars p.lets)) r light few h) nodes

  -- and what the filter pushes
  pub filter-pushes : (o : Option FilterCode) → IfSome o (λ f. filter.PushNodes (IsNodeOf (map typed lets) (typed root)) (filter.pushed_by p.shape.vars f))
      → IfSome o (FilterPushesSmall p.shape.vars)
  filter-pushes None nodes = tt
  filter-pushes (Some f) nodes = filter-pushes-small (length p.shape.vars) (IsNodeOf (map typed lets) (typed root)) (filter.pushed_by p.shape.vars f)
      (λ e v h. source-small p (map typed lets) (typed root) e v (l ∙ sym (trees_of_formulas p.shape.vars p.lets)) r light few h) nodes
