-- The walk by prefixes lists the segments.
use Rattle.std.proofs.Common.{◌≡◌, ◌≢◌, ◌⊎◌, inl, inr, ℕ, zero, suc, ◌+◌, ◌<◌, ◌≤◌, Bool, true, false, cond, eqb, eq-eqb, eqb-true}
use Rattle.std.proofs.Common.{List, [], ◌∷◌, ◌++◌, append_assoc, length, length-append, get_or, set, refl, sym, ◌∙◌, ap, subst, arith, Some}
use Rattle.std.proofs.Common.{if◌then◌else◌}
use Rattle.std.proofs.lemmas.Bool.{le-leb}
use Rattle.std.proofs.lemmas.List.{append-nil, get_or_append_left, get_or_at, get_or-set_same, get_or-set_other, set-get_or}
use Rattle.std.proofs.Math.ListN.{length-set}
use Rattle.ln_algebra.specs.Vector.{In, zeros}
use Rattle.ln_algebra.specs.Earlier.{IsInOrder, Sites}
use Rattle.ln_algebra.specs.Walk.{AllBelow, Found, IsRanked, IsRanking, Member, at_least, before, steps, unless_none, walk}
use Rattle.ln_algebra.proofs.Expanded.Expansion.{length-zeros}
use Rattle.ln_algebra.proofs.Walking.Stages.{zeros-get, ranked-distinct, fresh_from}
use Rattle.ln_algebra.proofs.Walking.Walk.{Distinct, Inside, Region, listing-walk, below_at_least, inside_set, In-append_left, In-append_right}
use Rattle.ln_algebra.proofs.Walking.Walk.{In-append}
use Rattle.ln_tree.specs.declared.shape.VarInfo.{VarInfo}
use Rattle.ln_tree.specs.Variables.{is_laid_out, same_site}
use Rattle.ln_tree.proofs.LaidLemmas.{same-site}
use Rattle.ln_order.specs.Orders.{IsOrderOf}
use Rattle.ln_order.specs.Sites.{place_in, ranking_of, site_of, sites_of, vars_of}
use Rattle.ln_order.proofs.Signs.RankingLemmas.{member-at, member-cases, member-right, ranking-is, ranking-append}
use Rattle.ln_poly.specs.Sparse.{AreBelow, IsPoly, Sparse}
use Rattle.ln_stage.specs.Kept.{all_rows, list_of, listed, tail}
use Rattle.ln_stage.specs.StageList.{IsStageListOf, IsStageOf}
use Rattle.ln_stage.proofs.Monomials.MonomialLemmas.{poly-terms, rows-monomials, rows-small}
use Rattle.ln_stage.proofs.Monomials.StageLemmas.{walk-stages}
use Rattle.ln_stage.proofs.Walks.StartLemmas.{rows-start}
use Rattle.ln_stage.proofs.Walks.TurnLemmas.{before-assoc, before-end}
use Rattle.ln_order.specs.Prefixes.{joined}
use Rattle.ln_stage.specs.Segments.{AreSegments, Ends, IsSegmentOf}
use Rattle.ln_stage.proofs.Results.SegmentLemmas.{ends-order}
use Rattle.ln_stage.specs.SiteWalk.{ListsAreWalkedByPrefixes, WalkGoesSiteBySite, WalksAreSegments, front_walk, prefix_walks, site_walk, site_walks, unless_cut}

-- ---- exponents of 0
-- all monomials have at least the exponent 0
pub at_least-all : (v : ℕ) (ms : List (List ℕ)) → at_least v 0 ms ≡ ms
at_least-all v [] = refl
at_least-all v (m ∷ ms) = rw (le-leb 0 (get_or m v 0) (omega arith)) (ap (λ z. m ∷ z) (at_least-all v ms))

-- setting an exponent that is 0 to 0 changes nothing
pub set-zero : (p : List ℕ) (v : ℕ) → get_or p v 0 ≡ 0 → set p v 0 ≡ p
set-zero p v e = ap (set p v) (sym e) ∙ set-get_or p v 0

-- without monomials nothing is listed
steps-nothing : (go : List (List ℕ) → List ℕ → Found) (v : ℕ) (p : List ℕ) (k e : ℕ) → steps go v [] p k e ≡ ([], false)
steps-nothing go v p zero e = refl
steps-nothing go v p (suc k) e = refl

walk-nothing : (b : ℕ) (vs p : List ℕ) → walk (suc b) vs [] p ≡ ([], false)
walk-nothing b [] p = refl
walk-nothing b (v ∷ vs) p = refl

tail-nothing : (b : ℕ) (us rest p : List ℕ) → tail b us rest [] p ≡ ([], false)
tail-nothing b [] rest p = refl
tail-nothing b (v ∷ us) rest p = rw (tail-nothing b us rest p, steps-nothing (walk (suc b) (us ++ rest)) v p b 1) refl

-- with the exponent 0
zero-first : (go : List (List ℕ) → List ℕ → Found) (v : ℕ) (m : List ℕ) (ms : List (List ℕ)) (p : List ℕ) (S : Found) → get_or p v 0 ≡ 0
    → unless_none (at_least v 0 (m ∷ ms)) (before (go (at_least v 0 (m ∷ ms)) (set p v 0)) S) ≡ before (go (m ∷ ms) p) S
zero-first go v m ms p S z =
    ap (λ l. unless_none l (before (go l (set p v 0)) S)) (at_least-all v (m ∷ ms)) ∙ ap (λ q. before (go (m ∷ ms) q) S) (set-zero p v z)

-- along the variables us and then the rest: what needs none of us, and then what needs one
walk-tail : (b : ℕ) (us rest : List ℕ) (ms : List (List ℕ)) (p : List ℕ) → ((v : ℕ) → Member us v → get_or p v 0 ≡ 0)
    → walk (suc b) (us ++ rest) ms p ≡ before (walk (suc b) rest ms p) (tail b us rest ms p)
walk-tail b [] rest ms p z = sym (before-end (walk (suc b) rest ms p))
walk-tail b (v ∷ us) rest [] p z = walk-nothing b (v ∷ us ++ rest) p ∙ sym (rw (walk-nothing b rest p, tail-nothing b (v ∷ us) rest p) refl)
walk-tail b (v ∷ us) rest (m ∷ ms) p z =
    let ih = walk-tail b us rest (m ∷ ms) p (λ w i. z w (inr i)) in
    let S : Found = steps (walk (suc b) (us ++ rest)) v (m ∷ ms) p b 1 in
    zero-first (walk (suc b) (us ++ rest)) v m ms p S (z v (inl refl)) ∙ ap (λ r. before r S) ih
    ∙ before-assoc (walk (suc b) rest (m ∷ ms) p) (tail b us rest (m ∷ ms) p) S

-- ---- one site more
-- with one more site at the end of a prefix, the ranking has the site's variables first, and then those of the prefix
pub ranking-last : (vars : List VarInfo) (p : List ℕ) (s : ℕ) → ranking_of vars (p ++ s ∷ []) ≡ vars_of s vars 0 ++ ranking_of vars p
ranking-last vars [] s = sym (append-nil (vars_of s vars 0))
ranking-last vars (t ∷ p) s = ap (λ z. z ++ vars_of t vars 0) (ranking-last vars p s) ∙ append_assoc (vars_of s vars 0) (ranking_of vars p) (vars_of t vars 0)

join-cases : (r t : Found) → before r t ≡ (r.0 ++ (unless_cut r t).0, (unless_cut r t).1)
join-cases (l, true) t = ap (λ z. (z, true)) (sym (append-nil l))
join-cases (l, false) t = refl

-- with one more site the walk lists what it lists without the site, and then what needs the site
pub walk-goes-site-by-site : WalkGoesSiteBySite
walk-goes-site-by-site b vars ms p s =
    ap (λ vs. walk (suc b) vs ms (zeros (length vars))) (ranking-last vars p s)
    ∙ walk-tail b (vars_of s vars 0) (ranking_of vars p) ms (zeros (length vars)) (λ v i. zeros-get (length vars) v)
    ∙ join-cases (front_walk b vars ms p) (tail b (vars_of s vars 0) (ranking_of vars p) ms (zeros (length vars)))

fronts-joined : (b : ℕ) (vars : List VarInfo) (ms : List (List ℕ)) (p o : List ℕ)
    → (front_walk b vars ms p).0 ++ joined (site_walks b vars ms p o) ≡ (front_walk b vars ms (p ++ o)).0
fronts-joined b vars ms p [] = append-nil (front_walk b vars ms p).0 ∙ ap (λ q. (front_walk b vars ms q).0) (sym (append-nil p))
fronts-joined b vars ms p (s ∷ o) =
    let ih = fronts-joined b vars ms (p ++ s ∷ []) o in
    let w : (front_walk b vars ms (p ++ s ∷ [])).0 ≡ (front_walk b vars ms p).0 ++ (site_walk b vars ms p s).0 =
    ap (λ z. z.0) (walk-goes-site-by-site b vars ms p s) in
    sym (append_assoc (front_walk b vars ms p).0 (site_walk b vars ms p s).0 (joined (site_walks b vars ms (p ++ s ∷ []) o)))
    ∙ ap (λ z. z ++ joined (site_walks b vars ms (p ++ s ∷ []) o)) (sym w) ∙ ih ∙ ap (λ q. (front_walk b vars ms q).0) (append_assoc p (s ∷ []) o)

list-walks : (vars : List VarInfo) (f : Sparse) (o : List ℕ) → list_of vars f o ≡ (front_walk 127 vars (all_rows (length vars) f) o).0
unfolding list_of listed
list-walks vars f o = ap (λ z. (walk 128 (ranking_of vars o) z (zeros (length vars))).0) (rows-start (length vars) f)

-- the list of an order is what the walk lists at its prefixes, one after the other
pub lists-are-walked-by-prefixes : ListsAreWalkedByPrefixes
lists-are-walked-by-prefixes vars f o = list-walks vars f o ∙ sym (fronts-joined 127 vars (all_rows (length vars) f) [] o)

-- ---- what a walk lists needs its variables
in-before : (r t : Found) (a : List ℕ) → In (before r t).0 a → In r.0 a ⊎ In t.0 a
in-before (l, true) t a i = inl i
in-before (l, false) t a i = In-append l t.0 a i

in-unless : (ms : List (List ℕ)) (r : Found) (a : List ℕ) → In (unless_none ms r).0 a → In r.0 a
in-unless [] r a i = absurd i
in-unless (m ∷ ms) r a i = i

-- at one of the exponents
in-steps : (go : List (List ℕ) → List ℕ → Found) (v : ℕ) (ms : List (List ℕ)) (p : List ℕ) (k e : ℕ) (a : List ℕ)
    → In (steps go v ms p k e).0 a → (d : ℕ) × (e ≤ d) × In (go (at_least v d ms) (set p v d)).0 a
in-steps go v ms p zero e a i = absurd i
in-steps go v ms p (suc k) e a i = by_case (in-before (go (at_least v e ms) (set p v e)) (steps go v ms p k (suc e)) a
    (in-unless (at_least v e ms) (before (go (at_least v e ms) (set p v e)) (steps go v ms p k (suc e))) a i)) (in-steps go v ms p k (suc e) a)
  where
    by_case : In (go (at_least v e ms) (set p v e)).0 a ⊎ In (steps go v ms p k (suc e)).0 a
        → (In (steps go v ms p k (suc e)).0 a → (d : ℕ) × (suc e ≤ d) × In (go (at_least v d ms) (set p v d)).0 a)
        → (d : ℕ) × (e ≤ d) × In (go (at_least v d ms) (set p v d)).0 a
    by_case (inl j) ih = (e, omega arith, j)
    by_case (inr j) ih = let r = ih j in (r.0, omega (arith, r.1), r.2)

-- a member needs one of the variables us, and is p but for the variables us and the rest
NeedsOne : List ℕ → List ℕ → Type 0
NeedsOne us a = (v : ℕ) × Member us v × (get_or a v 0 ≢ 0)

tail-needs : (b : ℕ) (us rest : List ℕ) (ms : List (List ℕ)) (p a : List ℕ) → Distinct (us ++ rest) → Inside (us ++ rest) (length p)
    → AllBelow (suc b) ms → In (tail b us rest ms p).0 a → NeedsOne us a × Region (us ++ rest) p a
unfolding NeedsOne
tail-needs b [] rest ms p a d n h i = absurd i
tail-needs b (v ∷ us) rest ms p a d n h i =
    by_case (in-before (tail b us rest ms p) (steps (walk (suc b) (us ++ rest)) v ms p b 1) a i) (tail-needs b us rest ms p a d.1 n.1 h)
  where
    wider : Region (us ++ rest) p a → Region (v ∷ us ++ rest) p a
    wider r = record { size = r.size; off = λ u f. r.off u f.1 }

    by_case : In (tail b us rest ms p).0 a ⊎ In (steps (walk (suc b) (us ++ rest)) v ms p b 1).0 a
        → (In (tail b us rest ms p).0 a → ((w : ℕ) × Member us w × (get_or a w 0 ≢ 0)) × Region (us ++ rest) p a)
        → ((w : ℕ) × Member (v ∷ us) w × (get_or a w 0 ≢ 0)) × Region (v ∷ us ++ rest) p a
    by_case (inl j) ih = let r = ih j in ((r.0.0, inr r.0.1, r.0.2), wider r.1)
    by_case (inr j) ih =
        let r = in-steps (walk (suc b) (us ++ rest)) v ms p b 1 a j in
        let l = listing-walk (suc b) (us ++ rest) (at_least v r.0 ms) (set p v r.0) d.1 (inside_set (us ++ rest) p v r.0 n.1)
        (below_at_least (suc b) v r.0 ms h) in
        let g : Region (us ++ rest) (set p v r.0) a = l.inside a r.2 in
        let q : get_or a v 0 ≡ r.0 = g.off v d.0 ∙ get_or-set_same p v r.0 0 n.0 in (
          (v, inl refl, λ e. omega (arith, r.1, q, e)),
          record { size = g.size ∙ length-set p v r.0; off = λ u f. g.off u f.1 ∙ get_or-set_other p v u r.0 0 f.0 },
        )

-- ---- variables of a prefix
vars-site : (s : ℕ) (is : List VarInfo) (v w : ℕ) → Member (vars_of s is v) w → (u : ℕ) × (w ≡ v + u) × (site_of is u ≡ Some s)
vars-site s [] v w m = absurd m
vars-site s (i ∷ is) v w m = go (same_site i.site (Some s)) refl m (vars-site s is (suc v) w) where
  go : (b : Bool) → same_site i.site (Some s) ≡ b → Member (if b then (v ∷ vars_of s is (suc v)) else vars_of s is (suc v)) w
      → (Member (vars_of s is (suc v)) w → (u : ℕ) × (w ≡ suc v + u) × (site_of is u ≡ Some s)) → (u : ℕ) × (w ≡ v + u) × (site_of (i ∷ is) u ≡ Some s)
  go true e (inl q) ih = (0, omega (arith, q), same-site i.site (Some s) e)
  go true e (inr j) ih = let r = ih j in (suc r.0, omega (arith, r.1), r.2)
  go false e j ih = let r = ih j in (suc r.0, omega (arith, r.1), r.2)

var-of : (vars : List VarInfo) (s w : ℕ) → Member (vars_of s vars 0) w → site_of vars w ≡ Some s
var-of vars s w m = let r = vars-site s vars 0 w m in let q : w ≡ r.0 = omega (arith, r.1) in ap (site_of vars) q ∙ r.2

ranked-of : (vars : List VarInfo) (p : List ℕ) (w : ℕ) → Member (ranking_of vars p) w → (t : ℕ) × Member p t × (site_of vars w ≡ Some t)
ranked-of vars [] w m = absurd m
ranked-of vars (s ∷ p) w m = go (member-cases (ranking_of vars p) (vars_of s vars 0) w m) (ranked-of vars p w) where
  go : Member (ranking_of vars p) w ⊎ Member (vars_of s vars 0) w → (Member (ranking_of vars p) w → (t : ℕ) × Member p t × (site_of vars w ≡ Some t))
      → (t : ℕ) × Member (s ∷ p) t × (site_of vars w ≡ Some t)
  go (inl j) ih = let r = ih j in (r.0, inr r.1, r.2)
  go (inr j) ih = (s, inl refl, var-of vars s w j)

-- the place of a site of the prefix, and of the next one
place-front : (p o : List ℕ) (t : ℕ) → Member p t → place_in (p ++ o) t < length p
place-front [] o t m = absurd m
place-front (s ∷ p) o t m = go (eqb s t) refl m (place-front p o t) where
  go : (b : Bool) → eqb s t ≡ b → (t ≡ s) ⊎ Member p t → (Member p t → place_in (p ++ o) t < length p) → cond b 0 (suc (place_in (p ++ o) t)) < suc (length p)
  go true e j ih = omega arith
  go false e (inl q) ih = absurd (let r : true ≡ false = sym (eq-eqb s t (sym q)) ∙ e in cc)
  go false e (inr j) ih = omega (arith, ih j)

place-next : (p o : List ℕ) (s : ℕ) → (Member p s → ⊥) → place_in (p ++ s ∷ o) s ≡ length p
place-next [] o s h = rw (eq-eqb s s refl) refl
place-next (t ∷ p) o s h = go (eqb t s) refl (place-next p o s (λ m. h (inr m))) where
  go : (b : Bool) → eqb t s ≡ b → place_in (p ++ s ∷ o) s ≡ length p → cond b 0 (suc (place_in (p ++ s ∷ o) s)) ≡ suc (length p)
  go true e ih = absurd (h (inl (sym (eqb-true t s e))))
  go false e ih = ap suc ih

-- ---- a ranking has each variable once
ranked-behind : (sites : Sites) (xs ys : List ℕ) → IsRanked sites (xs ++ ys) → IsRanked sites ys
ranked-behind sites [] ys h = h
ranked-behind sites (x ∷ xs) ys h = ranked-behind sites xs ys h.3

inside-from : (vs : List ℕ) (n : ℕ) → ((v : ℕ) → Member vs v → v < n) → Inside vs n
inside-from [] n h = tt
inside-from (v ∷ vs) n h = (h v (inl refl), inside-from vs n (λ w m. h w (inr m)))

-- ---- the lists with the place at which their members end
in-uncut : (r t : Found) (a : List ℕ) → In (unless_cut r t).0 a → In t.0 a
in-uncut (l, true) t a i = absurd i
in-uncut (l, false) t a i = i

HaveEnds : Sites → ℕ → List (List (List ℕ)) → Type 0
HaveEnds sites j [] = Unit {0}
HaveEnds sites j (l ∷ ls) = ((a : List ℕ) → In l a → Ends sites j a) × HaveEnds sites (suc j) ls

joined-ends : (sites : Sites) (j : ℕ) (ls : List (List (List ℕ))) (a : List ℕ) → HaveEnds sites j ls → In (joined ls) a → (i : ℕ) × (j ≤ i) × Ends sites i a
unfolding HaveEnds
joined-ends sites j [] a h i = absurd i
joined-ends sites j (l ∷ ls) a h i = go (In-append l (joined ls) a i) (joined-ends sites (suc j) ls a h.1) where
  go : In l a ⊎ In (joined ls) a → (In (joined ls) a → (i : ℕ) × (suc j ≤ i) × Ends sites i a) → (i : ℕ) × (j ≤ i) × Ends sites i a
  go (inl m) ih = (j, omega arith, h.0 a m)
  go (inr m) ih = let r = ih m in (r.0, omega (arith, r.1), r.2)

order-left : (sites : Sites) (xs ys : List (List ℕ)) → IsInOrder sites (xs ++ ys) → IsInOrder sites xs
order-left sites [] ys h = tt
order-left sites (x ∷ xs) ys h = ((λ b i. h.0 b (In-append_left xs ys b i)), order-left sites xs ys h.1)

order-right : (sites : Sites) (xs ys : List (List ℕ)) → IsInOrder sites (xs ++ ys) → IsInOrder sites ys
order-right sites [] ys h = h
order-right sites (x ∷ xs) ys h = order-right sites xs ys h.1

module _ (n : ℕ) (sites : Sites) (f : Sparse) where
  segments-from : (j : ℕ) (ls : List (List (List ℕ))) → IsInOrder sites (joined ls) → ((a : List ℕ) → In (joined ls) a → IsStageOf n sites f a)
      → ((a : List ℕ) (i : ℕ) → IsStageOf n sites f a → Ends sites i a → j ≤ i → In (joined ls) a) → HaveEnds sites j ls → AreSegments n sites f j ls
  unfolding HaveEnds
  segments-from j [] o st al h = tt
  segments-from j (l ∷ ls) o st al h = (
    here,
    segments-from (suc j) ls (order-right sites l (joined ls) o) (λ a i. st a (In-append_right l (joined ls) a i))
        (λ a i s e k. behind a i e k (In-append l (joined ls) a (al a i s e (omega (arith, k))))) h.1,
  ) where
    at : (a : List ℕ) → Ends sites j a → In l a ⊎ In (joined ls) a → In l a
    at a e (inl m) = m
    at a e (inr m) = let r = joined-ends sites (suc j) ls a h.1 m in absurd (ends-order sites r.0 j a r.2 e (omega (arith, r.1)))

    behind : (a : List ℕ) (i : ℕ) → Ends sites i a → suc j ≤ i → In l a ⊎ In (joined ls) a → In (joined ls) a
    behind a i e k (inl m) = absurd (ends-order sites i j a e (h.0 a m) (omega (arith, k)))
    behind a i e k (inr m) = m

    here : IsSegmentOf n sites f j l
    here = record {
      stages = λ a i. (st a (In-append_left l (joined ls) a i), h.0 a i);
      all = λ a s e. at a e (In-append l (joined ls) a (al a j s e (omega arith)));
      in_order = order-left sites l (joined ls) o;
    }

module _ (k : ℕ) (vars : List VarInfo) (f : Sparse) (o : List ℕ) (laid : is_laid_out k vars ≡ true) (full : IsOrderOf k o) (poly : IsPoly f)
    (below : AreBelow (length vars) f) where
  ranking : IsRanking (length vars) (sites_of vars o) (ranking_of vars o)
  ranking = ranking-is k vars o laid full.size full.each

  small : AllBelow 128 (all_rows (length vars) f)
  small = rows-small (length vars) f (poly-terms f poly).rising

  -- the list of an order is its stage list
  pub list-stages : IsStageListOf (length vars) (sites_of vars o) f (list_of vars f o)
  list-stages = rw (list-walks vars f o) (walk-stages (length vars) (sites_of vars o) f 128 (ranking_of vars o) (all_rows (length vars) f) ranking
      (rows-monomials (length vars) f (poly-terms f poly) below) small)

  the-list : IsStageListOf (length vars) (sites_of vars o) f (joined (prefix_walks 127 vars (all_rows (length vars) f) o))
  the-list = subst (IsStageListOf (length vars) (sites_of vars o) f) (lists-are-walked-by-prefixes vars f o) list-stages

  -- no site occurs twice
  not-before : (p q : List ℕ) (s : ℕ) → o ≡ p ++ s ∷ q → Member p s → ⊥
  not-before p q s e m =
      let r = member-at p s m in
      let l : length o ≡ length p + suc (length q) = ap length e ∙ length-append p (s ∷ q) in
      let first : get_or o r.0 0 ≡ s = ap (λ z. get_or z r.0 0) e ∙ get_or_append_left p (s ∷ q) 0 r.0 r.1 ∙ r.2 in
      let second : get_or o (length p) 0 ≡ s = ap (λ z. get_or z (length p) 0) e ∙ get_or_at p s q 0 (length p) refl in
      full.each.differ r.0 (length p) 0 r.1 (omega (arith, l)) (first ∙ sym second)

  walked-end : (p q : List ℕ) (s : ℕ) (a : List ℕ) → o ≡ p ++ s ∷ q → In (site_walk 127 vars (all_rows (length vars) f) p s).0 a
      → Ends (sites_of vars o) (suc (length p)) a
  unfolding NeedsOne
  walked-end p q s a e i =
      let vs : List ℕ = vars_of s vars 0 ++ ranking_of vars p in
      let split : ranking_of vars o ≡ ranking_of vars q ++ (vars_of s vars 0 ++ ranking_of vars p) =
      ap (ranking_of vars) e ∙ ranking-append vars p (s ∷ q) ∙ append_assoc (ranking_of vars q) (vars_of s vars 0) (ranking_of vars p) in
      let ranked : IsRanked (sites_of vars o) (ranking_of vars q ++ (vars_of s vars 0 ++ ranking_of vars p)) =
      subst (λ z. IsRanked (sites_of vars o) z) split ranking.ranked in
      let d = ranked-distinct (sites_of vars o) (vars_of s vars 0 ++ ranking_of vars p)
      (ranked-behind (sites_of vars o) (ranking_of vars q) (vars_of s vars 0 ++ ranking_of vars p) ranked) in
      let n = inside-from (vars_of s vars 0 ++ ranking_of vars p) (length (zeros (length vars)))
      (λ v m. (let b = ranking.below v (subst (λ z. Member z v) (sym split) (member-right (ranking_of vars q) (vars_of s vars 0 ++ ranking_of vars p) v m)) in
      omega (arith, b, length-zeros (length vars)))) in
      let r = tail-needs 127 (vars_of s vars 0) (ranking_of vars p) (all_rows (length vars) f)
      (zeros (length vars)) a d n small (in-uncut (front_walk 127 vars (all_rows (length vars) f) p)
      (tail 127 (vars_of s vars 0) (ranking_of vars p) (all_rows (length vars) f) (zeros (length vars))) a i) in
      let here : place_in o s ≡ length p = ap (λ z. place_in z s) e ∙ place-next p q s (not-before p q s e) in
      record {
        below = λ w t of far. r.1.off w (fresh_from (vars_of s vars 0 ++ ranking_of vars p) w
            (λ m. outside w t of far here (member-cases (vars_of s vars 0) (ranking_of vars p) w m))) ∙ zeros-get (length vars) w;
        last = λ j z. (r.0.0, s, var-of vars s r.0.0 r.0.1, omega (arith, here, z), r.0.2);
      } where
        outside : (w t : ℕ) → site_of vars w ≡ Some t → suc (length p) ≤ place_in o t → place_in o s ≡ length p
            → Member (vars_of s vars 0) w ⊎ Member (ranking_of vars p) w → ⊥
        outside w t of far here (inl m) =
            let z : t ≡ s = (let y : Some t ≡ Some s = sym of ∙ var-of vars s w m in cc) in
            omega (arith, far, here, ap (place_in o) z)
        outside w t of far here (inr m) =
            let r = ranked-of vars p w m in
            let z : t ≡ r.0 = (let y : Some t ≡ Some r.0 = sym of ∙ r.2 in cc) in
            omega (arith, far, place-front p (s ∷ q) r.0 r.1, ap (place_in o) z, ap (λ y. place_in y r.0) e)

  walks-end : (p q : List ℕ) → o ≡ p ++ q → HaveEnds (sites_of vars o) (suc (length p)) (site_walks 127 vars (all_rows (length vars) f) p q)
  unfolding HaveEnds
  walks-end p [] e = tt
  walks-end p (s ∷ q) e =
      let g : o ≡ (p ++ s ∷ []) ++ q = e ∙ sym (append_assoc p (s ∷ []) q) in
      let l : length (p ++ s ∷ []) ≡ suc (length p) = omega (arith, length-append p (s ∷ [])) in
      let ih : HaveEnds (sites_of vars o) (suc (length (p ++ s ∷ []))) (site_walks 127 vars (all_rows (length vars) f) (p ++ s ∷ []) q) =
      walks-end (p ++ s ∷ []) q g in
      ((λ a i. walked-end p q s a e i), subst (λ n. HaveEnds (sites_of vars o) (suc n) (site_walks 127 vars (all_rows (length vars) f) (p ++ s ∷ []) q)) l ih)

  first-ends : (a : List ℕ) → In (front_walk 127 vars (all_rows (length vars) f) []).0 a → Ends (sites_of vars o) 0 a
  first-ends a i = record {
    below = λ v s of far. (let q : a ≡ zeros (length vars) = one (all_rows (length vars) f) i in ap (λ z. get_or z v 0) q ∙ zeros-get (length vars) v);
    last = λ j z. absurd (omega (arith, z));
  } where
    one : (ms : List (List ℕ)) → In (walk 128 [] ms (zeros (length vars))).0 a → a ≡ zeros (length vars)
    one [] j = absurd j
    one (m ∷ ms) (inl q) = q
    one (m ∷ ms) (inr j) = absurd j

  segments : AreSegments (length vars) (sites_of vars o) f 0 (prefix_walks 127 vars (all_rows (length vars) f) o)
  unfolding HaveEnds
  segments = segments-from (length vars) (sites_of vars o) f 0 (prefix_walks 127 vars (all_rows (length vars) f) o) the-list.in_order
      the-list.stages (λ a i s e l. the-list.all a s) (first-ends, walks-end [] o refl)

-- what the walk lists at a prefix is the prefix's segment
pub walks-are-segments : WalksAreSegments
walks-are-segments k vars f o laid full poly below = segments k vars f o laid full poly below
