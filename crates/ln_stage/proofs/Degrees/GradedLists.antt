-- The lists that are found by total degree first are the stage lists, and what is kept of them are the stages.
use Rattle.std.proofs.Common.{◌≡◌, ℕ, suc, ◌+◌, ◌<◌, ◌≤◌, Bool, true, false, eqb, eq-eqb, eqb-true, List, [], ◌∷◌, ◌++◌, length}
use Rattle.std.proofs.Common.{map, take, refl, sym, ◌∙◌, ap, subst, arith, if◌then◌else◌}
use Rattle.std.specs.Prelude.{◌||◌, ◌&&◌, nat_lt}
use Rattle.std.proofs.lemmas.Bool.Decides.{nat_tests}
use Rattle.std.specs.List.{range_with_len}
use Rattle.std.proofs.lemmas.List.{length-take-le, take_all}
use Rattle.ln_algebra.specs.Orders.{ByDegree, GradedEarlier}
use Rattle.ln_algebra.specs.Stage.{IsStageListBy}
use Rattle.ln_algebra.specs.Vector.{zeros}
use Rattle.ln_tree.specs.declared.shape.VarInfo.{VarInfo}
use Rattle.ln_tree.specs.Variables.{is_laid_out}
use Rattle.ln_order.specs.Orders.{IsOrderOf}
use Rattle.ln_order.specs.Prefixes.{IsPrefixOf}
use Rattle.ln_order.specs.Sites.{ranking_of, sites_of}
use Rattle.ln_order.proofs.Signs.RankingLemmas.{ranking-is}
use Rattle.ln_order.proofs.Signs.SitesLemmas.{kept as shape-keeps}
use Rattle.ln_poly.specs.Sparse.{AreBelow, IsPoly, Sparse}
use Rattle.ln_stage.specs.Degrees.{largest_degree, listed_graded, listed_layers}
use Rattle.ln_stage.specs.FirstSight.{list_along}
use Rattle.ln_stage.specs.Graded.{AreGradedStagesOf, AreStagesBy, graded_at, graded_list, rank_of}
use Rattle.ln_stage.specs.Graded.{cut_by, found_at, segment_by}
use Rattle.ln_stage.specs.Kept.{all_rows, list_of, rows}
use Rattle.ln_algebra.specs.Layers.{DegreesBelow, layers}
use Rattle.ln_stage.specs.StageList.{IsMonomialOf}
use Rattle.ln_stage.specs.Tally.{Tallied, see_all}
use Rattle.ln_stage.specs.Visit.{IsStart, cut_before}
use Rattle.ln_stage.proofs.Degrees.DegreeLemmas.{rows-largest}
use Rattle.ln_algebra.proofs.Walking.GradedStages.{layers-stages-by}
use Rattle.ln_stage.proofs.Results.KeptLemmas as by_lists
use Rattle.ln_stage.proofs.Monomials.MonomialLemmas.{poly-terms, rows-monomials}
use Rattle.ln_stage.proofs.Results.FoldLemmas.{Sized}
use Rattle.ln_stage.proofs.Sights.Members.{each-in}
use Rattle.ln_stage.proofs.Results.KeptLemmas.{AreAlong}
use Rattle.ln_stage.proofs.Results.ResultLemmas.{by-prefixes, result-stages}
use Rattle.ln_stage.proofs.Walks.StartLemmas.{fresh-ranking, rows-all, rows-start}
use Rattle.ln_stage.proofs.Walks.VisitLemmas.{nothing-behind, start-size}

-- ---- what is at a prefix
-- at a whole order is its stage list by total degree first
pub at-whole : (k : ℕ) (vars : List VarInfo) (f : Sparse) (o : List ℕ) → length o ≡ k → graded_at k vars f o ≡ graded_list vars f o
unfolding graded_at
at-whole k vars f o e = let q : eqb (length o) k ≡ true = eq-eqb (length o) k e in rw q refl

-- nothing is at a prefix that isn't a whole order
pub at-part : (k : ℕ) (vars : List VarInfo) (f : Sparse) (p : List ℕ) → (length p ≡ k → ⊥) → graded_at k vars f p ≡ []
unfolding graded_at
at-part k vars f p d = let q : eqb (length p) k ≡ false = grind (arith, nat_tests, d) in rw q refl

-- what is left out has nothing at it
pub left-out : (by_degree cut : Bool) (k : ℕ) (vars : List VarInfo) (f : Sparse) (p : List ℕ) → cut ≡ cut_before (cut_by by_degree k vars f) p
    → true ≡ (cut || (by_degree && nat_lt (length p) k)) → found_at by_degree k vars f p ≡ ([], cut)
left-out false true k vars f p b h = nothing-behind vars f p (sym b)
left-out false false k vars f p b h = cc
left-out true true k vars f [] b h = cc
left-out true true k vars f (x ∷ p) b h = cc
left-out true false k vars f p b h = ap (λ z. (z, false)) (at-part k vars f p (λ e. grind (arith, nat_tests)))

-- by degree what isn't left out is a whole order
pub whole-size : (by_degree : Bool) {n k : ℕ} → by_degree ≡ true → (by_degree && nat_lt n k) ≡ false → n ≤ k → n ≡ k
whole-size false e h l = cc
whole-size true e h l = grind (arith, nat_tests)

-- where nothing is at the shorter prefixes, the whole list is at the order
whole-along : (S : List ℕ → List (List ℕ)) (o : List ℕ) → ((j : ℕ) → j < length o → S (take j o) ≡ []) → list_along S o ≡ S o
whole-along S [] h = refl
whole-along S (x ∷ o) h =
    ap (λ z. z ++ list_along (λ p. S (x ∷ p)) o) (h 0 (omega arith)) ∙ whole-along (λ p. S (x ∷ p)) o (λ j l. h (suc j) (omega (arith, l)))

map-none : (g : ℕ → List ℕ) (xs : List ℕ) → map g xs ≡ [] → xs ≡ []
map-none g [] e = refl
map-none g (x ∷ xs) e = cc

module _ (k : ℕ) (vars : List VarInfo) (f : Sparse) (few : k ≤ 5) (laid : is_laid_out k vars ≡ true) (poly : IsPoly f) (b : AreBelow (length vars) f) where
  -- the list of an order is its stage list
  the-list : (o : List ℕ) → IsOrderOf k o
      → IsStageListBy (GradedEarlier (sites_of vars o)) (length vars) (sites_of vars o) (IsMonomialOf (length vars) f) (graded_list vars f o)
  unfolding graded_list listed_layers
  the-list o p =
      let n : ℕ = length vars in
      let r = ranking-is k vars o laid p.size p.each in
      let limit : ℕ = largest_degree f (ranking_of vars o) (range_with_len 0 (length f)) + 1 in
      let all : rows (length vars) f (range_with_len 0 (length f)) ≡ all_rows (length vars) f = rows-all (length vars) f in
      let low : DegreesBelow limit (ranking_of vars o) (all_rows (length vars) f) = rw all at
      (rows-largest (length vars) f (ranking_of vars o) (range_with_len 0 (length f)) (fresh-ranking (length vars) (sites_of vars o) (ranking_of vars o) r)) in
      let w = layers-stages-by (length vars) (sites_of vars o) (IsMonomialOf (length vars) f) (λ m s. s.size) limit (ranking_of vars o)
      (all_rows (length vars) f) r (rows-monomials (length vars) f (poly-terms f poly) b) low in
      let e : graded_list vars f o ≡ (layers limit 0 (ranking_of vars o) (all_rows (length vars) f) (zeros (length vars))).0 =
      ap (λ z. (layers limit 0 (ranking_of vars o) z (zeros (length vars))).0) (rows-start (length vars) f) in
      subst (λ l. IsStageListBy (GradedEarlier (sites_of vars o)) (length vars) (sites_of vars o) (IsMonomialOf (length vars) f) l) (sym e) w

  sized-part : (p : List ℕ) → IsPrefixOf k p → Sized (length vars) (graded_at k vars f p)
  unfolding graded_at
  sized-part p r = go (eqb (length p) k) refl where
    go : (c : Bool) → eqb (length p) k ≡ c → Sized (length vars) (if c then graded_list vars f p else [])
    go false q = tt
    go true q =
        let l : length p ≡ k = eqb-true (length p) k q in
        let s : r.places ≡ k = omega (arith, l, ap length r.front, length-take-le r.places r.order (omega (arith, r.within, r.full.size))) in
        let e : p ≡ r.order = r.front ∙ take_all r.places r.order (omega (arith, s, r.full.size)) in
        let w : IsOrderOf k p = subst (IsOrderOf k) (sym e) r.full in
        each-in (λ a. length a ≡ length vars) (graded_list vars f p) (λ a i. ((the-list p w).stages a i).over.size)

  shorter : (o : List ℕ) (j : ℕ) → IsOrderOf k o → j < k → graded_at k vars f (take j o) ≡ []
  shorter o j p l = at-part k vars f (take j o) (λ e. absurd (omega (arith, e, l, length-take-le j o (omega (arith, l, p.size)))))

  along : (o : List ℕ) → IsOrderOf k o → graded_list vars f o ≡ list_along (graded_at k vars f) o
  along o p = sym (whole-along (graded_at k vars f) o (λ j l. shorter o j p (omega (arith, l, p.size))) ∙ at-whole k vars f o p.size)

  -- the lists are along what is at prefixes
  pub by-orders : AreAlong ByDegree k vars f (graded_list vars f) (graded_at k vars f)
  by-orders = record { few = few; lists = the-list; sized = sized-part; along = along }

  module _ (most heavy : ℕ) where
    -- what is kept at the end makes the polynomial's stages by total degree first
    pub graded-stages : AreGradedStagesOf k vars f (by_lists.result by-orders most heavy)
    graded-stages = record {
      sites = refl;
      lists = rw (by_lists.result-vectors by-orders most heavy) (by_lists.found-lists by-orders);
      first_sight = by_lists.result-first by-orders most heavy;
      below = by_lists.result-below by-orders most heavy;
      numbers = by_lists.result-numbers by-orders most heavy;
      size = by_lists.segments-size by-orders most heavy;
      make = refl;
      named = by_lists.segments-within by-orders most heavy;
      whole = λ o j p l. map-none _ _
          (by_lists.part-vectors by-orders most heavy o j p (omega (arith, l)) ∙ shorter o j p l);
    }

-- ---- both orders of infinitesimals
-- a polynomial without terms of 0, over variables of at most five sites
pub record HasTerms (k : ℕ) (vars : List VarInfo) (f : Sparse) : Type 0 where
  pub laid : is_laid_out k vars ≡ true
  pub poly : IsPoly f
  pub below : AreBelow (length vars) f

-- the terms of a polynomial are such
pub has-terms : {k : ℕ} {vars : List VarInfo} {f terms : Sparse} → is_laid_out k vars ≡ true → terms ≡ f → IsPoly f → AreBelow (length vars) f
    → HasTerms k vars terms
has-terms l e p b = record { laid = l; poly = rw e p; below = rw e b }

-- the stage list in an order of the sites, as the listing finds it
abbrev pub list_by : Bool → List VarInfo → Sparse → List ℕ → List (List ℕ)
list_by false vars f o = list_of vars f o
list_by true vars f o = graded_list vars f o

module _ {k : ℕ} {vars : List VarInfo} {f : Sparse} (h : HasTerms k vars f) where
  -- the lists are along what is at prefixes
  pub along-by : (by_degree : Bool) → AreAlong (rank_of by_degree) k vars f (list_by by_degree vars f) (segment_by by_degree k vars f)
  along-by false = by-prefixes k vars f (shape-keeps k vars h.laid).few_sites h.laid h.poly h.below
  along-by true = by-orders k vars f (shape-keeps k vars h.laid).few_sites h.laid h.poly h.below

  -- what is kept at the end makes the polynomial's stages
  pub stages-by : (by_degree : Bool) (most heavy : ℕ) → AreStagesBy by_degree k vars f (by_lists.result (along-by by_degree) most heavy)
  stages-by false = result-stages k vars f (shape-keeps k vars h.laid).few_sites h.laid h.poly h.below
  stages-by true = graded-stages k vars f (shape-keeps k vars h.laid).few_sites h.laid h.poly h.below

-- ---- what is listed from the start
graded-is : {vars : List VarInfo} {f : Sparse} {o vs kept exps : List ℕ} → IsStart vars f o vs kept exps
    → (listed_graded f vs kept exps).0 ≡ graded_list vars f o
unfolding graded_list
graded-is w = rw (w.ranking, w.all, w.none) refl

-- what is kept of the listing that begins with all terms and the vector of zeros is what is kept of the order's list
pub graded-seen : {vars : List VarInfo} {f : Sparse} {o vs kept exps : List ℕ} (t : Tallied) → IsStart vars f o vs kept exps
    → see_all (length exps) f t (listed_graded f vs kept exps).0 ≡ see_all (length vars) f t (graded_list vars f o)
graded-seen {vars} {f} {o} {vs} {kept} {exps} t w =
    ap (λ z. see_all z f t (listed_graded f vs kept exps).0) (start-size w) ∙ ap (see_all (length vars) f t) (graded-is w)
