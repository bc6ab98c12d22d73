-- A predicate has one set of stage lists, of one count and one weight.
use Rattle.std.proofs.Common.{◌≡◌, inl, inr, ℕ, ◌≤◌, true, List, [], length, ap, subst, arith}
use Rattle.std.specs.Prelude.{◌≢◌}
use Rattle.ln_algebra.specs.Orders.{BySmallest}
use Rattle.ln_base.specs.Limits.{most_stages, most_weight}
use Rattle.ln_tree.specs.Table.{PredOf, pred_of}
use Rattle.ln_tree.specs.Variables.{is_laid_out}
use Rattle.ln_bound.specs.Light.{AreLight}
use Rattle.ln_poly.specs.Expansion.{HaveFewTerms, IsNormal}
use Rattle.ln_poly.specs.Sparse.{Sparse}
use Rattle.ln_poly.proofs.TermLists.Counting.{zero-no-terms}
use Rattle.ln_stage.specs.Lists.{AreStageLists, Passes, stage_count, stage_weight}
use Rattle.ln_stage.specs.Accepted.{AcceptedOf, IsAcceptedPred}
use Rattle.ln_stage.specs.Staged.{block_vector, count_numbers, vectors_of}
use Rattle.ln_stage.proofs.Results.KeptLemmas.{count-map}
use Rattle.ln_stage.proofs.Results.SamePoly.{one-normal}
use Rattle.ln_stage.proofs.Sights.Members.{lists-one}
use Rattle.ln_compile.specs.declared.refusal.Refusal.TheVariants.{Stages}
use Rattle.ln_compile.specs.Accepted.{IsHeavyFault, IsSound, IsStagesFault, expanded_of, loaded_of, root_of}
use Rattle.ln_compile.specs.Compiled.{IsStageCount}
use Rattle.ln_compile.specs.Refused.{StopsPred, stages}

-- where its lists are within the limits it has not too many stages
pub within-limits : (p : PredOf) (f : Sparse) (ls : List (List (List ℕ))) → is_laid_out p.sites p.vars ≡ true
    → IsNormal (length p.vars) (root_of p) f → AreStageLists p.sites p.vars f ls
    → stage_count ls ≤ most_stages → stage_weight (length p.vars) f ls ≤ most_weight → IsStagesFault p → ⊥
within-limits p f ls h n a c w z =
    let q : z.poly ≡ f = one-normal (length p.vars) (root_of p) z.poly f z.normal n in
    let b : AreStageLists p.sites p.vars f z.lists = subst (λ (g : Sparse). AreStageLists p.sites p.vars g z.lists) q z.are_lists in
    let e : z.lists ≡ ls = lists-one BySmallest p.sites p.vars f z.lists ls h b a in
    elim z.passes [
      | inl l ↦ omega (arith, l, c, ap stage_count e)
      | inr l ↦ omega (arith, l, w, ap (stage_weight (length p.vars) z.poly) e, ap (λ (g : Sparse). stage_weight (length p.vars) g ls) q)
    ]

-- a predicate whose normal polynomial isn't 0, and which has none of the other faults, has no fault
pub sound_pred : (p : PredOf) (f : Sparse) → AreLight (loaded_of p) → HaveFewTerms (length p.vars) (expanded_of p) → (IsHeavyFault p → ⊥)
    → IsNormal (length p.vars) (root_of p) f → f ≢ [] → (IsStagesFault p → ⊥) → IsSound p
sound_pred p f l t w n d s = record { light = l; few = t; whole = w; nonzero = λ z. d (zero-no-terms (length p.vars) (root_of p) f n z); staged = s }

-- a predicate whose stage lists exceed a limit is refused for its stages, where it has none of the faults before
pub stages_stops : (k : ℕ) (p : PredOf) (f : Sparse) → AreLight (loaded_of p) → HaveFewTerms (length p.vars) (expanded_of p)
    → (IsHeavyFault p → ⊥) → IsNormal (length p.vars) (root_of p) f → f ≢ []
    → ((ls : List (List (List ℕ))) × AreStageLists p.sites p.vars f ls × Passes (length p.vars) f most_stages most_weight ls) → StopsPred k p (Stages k p.at)
stages_stops k p f l t w n d s =
    inl (stages l t w (λ z. d (zero-no-terms (length p.vars) (root_of p) f n z)) (record { poly = f; normal = n; lists = s.0; are_lists = s.1; passes = s.2 }))

-- the stage count of an accepted predicate is that of its stages
pub counted : (a : AcceptedOf) → IsAcceptedPred a → IsStageCount (pred_of a.pred) (count_numbers a.stages.lists)
counted a k = record {
  poly = a.poly;
  normal = k.expanded.normal;
  lists = vectors_of (length a.pred.shape.vars) a.stages;
  are_lists = k.stages.lists;
  count = count-map (block_vector (length a.pred.shape.vars) a.stages.exps) a.stages.lists;
}
