-- The segments and lists that are found are the stages.
use Rattle.std.proofs.Common.{◌≡◌, Bool, false, ℕ, zero, suc, ◌+◌, ◌<◌, ◌≤◌, true, List, [], ◌∷◌, length, get_or, take, ◌++◌}
use Rattle.std.proofs.Common.{refl, sym, ◌∙◌, ap, subst, arith}
use Rattle.std.specs.Prelude.{◌↔◌, IsTrue}
use Rattle.ln_algebra.specs.Orders.{BySmallest}
use Rattle.ln_tree.specs.declared.shape.VarInfo.{VarInfo}
use Rattle.ln_tree.specs.Variables.{is_laid_out}
use Rattle.ln_order.specs.Orders.{IsOrderOf}
use Rattle.ln_order.specs.Sites.{sites_of}
use Rattle.ln_poly.specs.Sparse.{AreBelow, IsPoly, Sparse}
use Rattle.ln_stage.specs.FirstSight.{last_walk, prefix_walk}
use Rattle.ln_stage.specs.Kept.{all_rows, list_of}
use Rattle.ln_stage.specs.Segments.{AreSegments, IsSegmentOf}
use Rattle.ln_stage.specs.SiteWalk.{prefix_walks, site_walk, site_walks}
use Rattle.ln_stage.specs.Staged.{AreStagesOf}
use Rattle.ln_stage.specs.Visit.{segment_at}
use Rattle.ln_stage.proofs.Sights.FirstSightLemmas.{list-along}
use Rattle.ln_stage.proofs.Results.FoldLemmas.{Sized}
use Rattle.ln_stage.proofs.Sights.Members.{each-in}
use Rattle.ln_stage.proofs.Results.KeptLemmas.{AreAlong}
use Rattle.ln_stage.proofs.Results.KeptLemmas as by_lists
pub use Rattle.ln_stage.proofs.Monomials.MonomialLemmas.{poly-terms}
use Rattle.ln_stage.proofs.Walks.SiteWalkLemmas.{list-stages, walks-are-segments}

-- ---- the segment of each prefix
segments-at : (n : ℕ) (vars : List VarInfo) (o : List ℕ) (f : Sparse) (i : ℕ) (ls : List (List (List ℕ))) (j m : ℕ) → m ≡ i + j
    → AreSegments n (sites_of vars o) f i ls → j < length ls → IsSegmentOf n (sites_of vars o) f m (get_or ls j [])
segments-at n vars o f i [] j m e a h = absurd (omega arith)
segments-at n vars o f i (l ∷ ls) zero m e a h = let q : m ≡ i = omega (arith, e) in rw q a.0
segments-at n vars o f i (l ∷ ls) (suc j) m e a h = segments-at n vars o f (suc i) ls j m (omega (arith, e)) a.1 (omega (arith, h))

site-walks-at : (b : ℕ) (vars : List VarInfo) (ms : List (List ℕ)) (q o : List ℕ) (s j : ℕ) → j ≤ length o
    → get_or ((site_walk b vars ms q s).0 ∷ site_walks b vars ms (q ++ s ∷ []) o) j [] ≡ last_walk b vars ms q s (take j o)
site-walks-at b vars ms q [] s zero h = refl
site-walks-at b vars ms q [] s (suc j) h = absurd (omega arith)
site-walks-at b vars ms q (t ∷ o) s zero h = refl
site-walks-at b vars ms q (t ∷ o) s (suc j) h = site-walks-at b vars ms (q ++ s ∷ []) o t j (omega (arith, h))

walks-at : (b : ℕ) (vars : List VarInfo) (ms : List (List ℕ)) (o : List ℕ) (j : ℕ) → j ≤ length o
    → get_or (prefix_walks b vars ms o) j [] ≡ prefix_walk b vars ms (take j o)
walks-at b vars ms o zero h = refl
walks-at b vars ms [] (suc j) h = absurd (omega arith)
walks-at b vars ms (s ∷ o) (suc j) h = site-walks-at b vars ms [] o s j (omega (arith, h))

walks-length : (b : ℕ) (vars : List VarInfo) (ms : List (List ℕ)) (q o : List ℕ) → length (site_walks b vars ms q o) ≡ length o
walks-length b vars ms q [] = refl
walks-length b vars ms q (s ∷ o) = ap suc (walks-length b vars ms (q ++ s ∷ []) o)

module _ (k : ℕ) (vars : List VarInfo) (f : Sparse) (few : k ≤ 5) (laid : is_laid_out k vars ≡ true) (poly : IsPoly f) (b : AreBelow (length vars) f) where
  -- the segment of a prefix
  the-segment : (o : List ℕ) (j : ℕ) → IsOrderOf k o → j ≤ k → IsSegmentOf (length vars) (sites_of vars o) f j (segment_at vars f (take j o))
  unfolding segment_at
  the-segment o j p h =
      let ls : List (List (List ℕ)) = prefix_walks 127 vars (all_rows (length vars) f) o in
      let a : AreSegments (length vars) (sites_of vars o) f 0 (prefix_walks 127 vars (all_rows (length vars) f) o) =
      walks-are-segments k vars f o laid p poly b in
      let l : j < length (prefix_walks 127 vars (all_rows (length vars) f) o) =
      omega (arith, h, p.size, walks-length 127 vars (all_rows (length vars) f) [] o) in
      let s : IsSegmentOf (length vars) (sites_of vars o) f j (get_or (prefix_walks 127 vars (all_rows (length vars) f) o) j []) =
      segments-at (length vars) vars o f 0 (prefix_walks 127 vars (all_rows (length vars) f) o) j j (omega arith) a l in
      subst (IsSegmentOf (length vars) (sites_of vars o) f j) (walks-at 127 vars (all_rows (length vars) f) o j (omega (arith, h, p.size))) s

  -- the lists are along the segments
  pub by-prefixes : AreAlong BySmallest k vars f (list_of vars f) (segment_at vars f)
  unfolding segment_at
  by-prefixes = record {
    few = few;
    lists = λ o p. list-stages k vars f o laid p poly b;
    sized = λ p r. subst (λ q. Sized (length vars) (segment_at vars f q)) (sym r.front) (each-in (λ a. length a ≡ length vars)
        (segment_at vars f (take r.places r.order)) (λ a i. ((the-segment r.order r.places r.full r.within).stages a i).0.over.size));
    along = λ o p. list-along vars f o;
  }

  module _ (most heavy : ℕ) where
    -- what is kept at the end makes the polynomial's stages
    pub result-stages : AreStagesOf k vars f (by_lists.result by-prefixes most heavy)
    result-stages = record {
      sites = refl;
      lists = rw (by_lists.result-vectors by-prefixes most heavy) (by_lists.found-lists by-prefixes);
      first_sight = by_lists.result-first by-prefixes most heavy;
      below = by_lists.result-below by-prefixes most heavy;
      numbers = by_lists.result-numbers by-prefixes most heavy;
      segments = record {
        size = by_lists.segments-size by-prefixes most heavy;
        each = λ o j p h. rw (by_lists.part-vectors by-prefixes most heavy o j p h) (the-segment o j p h);
        make = refl;
        numbers = by_lists.segments-within by-prefixes most heavy;
      };
    }

-- ---- a polynomial that isn't 0
-- where the test for 0 fails, the polynomial isn't 0
pub some-terms : (b : Bool) (f : Sparse) → b ≡ false → (IsTrue b ↔ (f ≡ [])) → f ≡ [] → ⊥
some-terms b f e h z = let w : true ≡ false = sym (h.1 z) ∙ e in cc

-- a polynomial that isn't 0 has a term
pub some-count : (f : Sparse) → (f ≡ [] → ⊥) → 0 < length f
some-count [] h = absurd (h refl)
some-count (t ∷ f) h = omega arith
