-- A predicate without a fault has a normal polynomial, which isn't 0 and isn't too large, and that has stages, which aren't too many.
use Rattle.std.proofs.Common.{inl, inr, ℕ, List, [], ◌∷◌, ◌++◌, length, subst, arith}
use Rattle.std.specs.Prelude.{◌≢◌, ◌<◌, ◌≤◌}
use Rattle.ln_base.specs.declared.span.Span.{Span}
use Rattle.ln_algebra.specs.Tree.{Tree}
use Rattle.ln_algebra.specs.Weights.{weighted_sum}
use Rattle.ln_base.specs.Limits.{most_stages, most_weight}
use Rattle.ln_tree.specs.declared.shape.VarInfo.{VarInfo}
use Rattle.ln_tree.specs.Table.{PredOf}
use Rattle.ln_bound.specs.Light.{most}
use Rattle.ln_bound.specs.Value.{weights}
use Rattle.ln_poly.specs.Expansion.{HasTooManyTerms, HaveFewTerms, IsNormal, IsTermsFault}
use Rattle.ln_poly.specs.OfPred.{root_of}
use Rattle.ln_poly.specs.Sparse.{Sparse, terms_of}
use Rattle.ln_poly.proofs.TermLists.Counting.{no-terms-zero}
use Rattle.ln_stage.specs.Lists.{AreStageLists, Passes, stage_count, stage_weight}
use Rattle.ln_stage.specs.Sound.{IsSound}
use Rattle.ln_stage.specs.Staged.{StopsListing}
use Rattle.ln_stage.specs.declared.stop.StageStop.TheVariants.{Stages}

-- where no node has too many terms, none is the first that has
few-part : (n : ℕ) (xs : List (Span × Tree)) (y : Span × Tree) (zs : List (Span × Tree)) → HaveFewTerms n (xs ++ y ∷ zs) → HasTooManyTerms n y.1 → ⊥
few-part n [] y zs h = h.0
few-part n (x ∷ xs) y zs h = few-part n xs y zs h.1

-- and so there is no first node that has too many terms
pub few_terms : (n : ℕ) (nodes : List (Span × Tree)) (at : Span) → HaveFewTerms n nodes → IsTermsFault n nodes at → ⊥
few_terms n nodes at h f = few-part n f.before (at, f.node) f.after (subst (HaveFewTerms n) f.stands h) f.many

-- where lists don't pass the limits, the stages don't stop there
pub few_stages : (k : ℕ) (vars : List VarInfo) (f : Sparse) (count heavy : ℕ)
    → ((lists : List (List (List ℕ))) → AreStageLists k vars f lists → Passes (length vars) f count heavy lists → ⊥)
    → StopsListing k vars f count heavy Stages → ⊥
few_stages k vars f count heavy h s = h s.1.0 s.1.1 s.1.2

at-most : (x y : ℕ) → (y < x → ⊥) → x ≤ y
at-most x y h = omega (arith, h)

module _ (p : PredOf) (f : Sparse) (s : IsSound p) (n : IsNormal (length p.vars) (root_of p) f) where
  -- the polynomial isn't 0
  pub is-some : f ≢ []
  is-some e = s.nonzero (no-terms-zero (length p.vars) (root_of p) f n e)

  -- all scaled derivatives of it together weigh at most 2^127 - 1
  pub light-whole : weighted_sum (weights p.vars) (terms_of (length p.vars) f) ≤ most
  light-whole = at-most (weighted_sum (weights p.vars) (terms_of (length p.vars) f)) most (λ h. s.whole (record { poly = f; normal = n; heavy = h }))

  module _ (lists : List (List (List ℕ))) (a : AreStageLists p.sites p.vars f lists) where
    -- its lists pass no limit
    pub no-passes : Passes (length p.vars) f most_stages most_weight lists → ⊥
    no-passes h = s.staged (record { poly = f; normal = n; lists = lists; are_lists = a; passes = h })

    -- so there are no more stages than the limit
    pub few-count : stage_count lists ≤ most_stages
    few-count = at-most (stage_count lists) most_stages (λ h. no-passes (inl h))

    -- and no more weight
    pub few-weight : stage_weight (length p.vars) f lists ≤ most_weight
    few-weight = at-most (stage_weight (length p.vars) f lists) most_weight (λ h. no-passes (inr h))
