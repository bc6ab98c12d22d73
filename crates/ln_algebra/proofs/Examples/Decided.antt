-- Tests by which the premises of worked values are computed: rankings, monomials, indices that differ.
use Rattle.std.proofs.Common.{◌≡◌, ◌≢◌, ℕ, ◌<◌, ◌≤◌, zero, suc, refl, sym, ◌∙◌, ap, arith, List, [], ◌∷◌, length, get_or, Bool, true, false}
use Rattle.std.proofs.Common.{not, ◌&&◌, ◌||◌, eqb, ltb, Option, Some, None, is_some, is_none, ◌⊎◌, inl, inr}
use Rattle.std.proofs.lemmas.Int.{ints}
use Rattle.std.proofs.lemmas.Bool.{and_parts, cases_lt, or_cases, eq-eqb, eqb-true, ltb-true}
use Rattle.std.proofs.Math.IntN.{ℤ, pos, negsuc}
use Rattle.ln_algebra.proofs.Expanded.Expansion.{expanded}
use Rattle.ln_algebra.proofs.Expanded.Normal.{normal_is, same_vector-is}
use Rattle.ln_algebra.proofs.Ordering.Ranking.{lex-is}
use Rattle.ln_algebra.proofs.Walking.Stages.{walk-stages}
use Rattle.ln_algebra.proofs.Walking.Walk.{Lex}
use Rattle.ln_algebra.specs.Coefficient.{normal_coefficient}
use Rattle.ln_algebra.specs.Earlier.{Earlier, IndicesDiffer, Of, RanksBefore, Sites}
use Rattle.ln_algebra.specs.Stage.{IsMonomial, IsStageList}
use Rattle.ln_algebra.specs.Terms.{Term, factor_at}
use Rattle.ln_algebra.specs.Tree.{InputsBelow, Tree}
use Rattle.ln_algebra.specs.Vector.{In, same_vector, zeros}
use Rattle.ln_algebra.specs.Walk.{AllBelow, AreMonomials, IsRanked, IsRanking, Member, walk}
use Rattle.ln_algebra.specs.Worked.{owner_in, sites_of}

-- ---- numbers below n
-- does each number below n pass the test?
abbrev pub all_under : (ℕ → Bool) → ℕ → Bool
all_under test zero = true
all_under test (suc n) = test n && all_under test n

-- then one number below n does
all_under-at : (test : ℕ → Bool) (n : ℕ) → all_under test n ≡ true → (v : ℕ) → v < n → test v ≡ true
all_under-at test zero e v l = absurd (omega arith)
all_under-at test (suc n) e v l = by_case (cases_lt v n) (all_under-at test n (and_parts (test n) (all_under test n) e).1 v) where
  by_case : (v < n) ⊎ (n ≤ v) → (v < n → test v ≡ true) → test v ≡ true
  by_case (inl m) ih = ih m
  by_case (inr m) ih = let q : v ≡ n = omega arith in rw q (and_parts (test n) (all_under test n) e).0

-- what has an owner is in the list
owner-below : (owners : List (Option ℕ)) (v s : ℕ) → owner_in owners v ≡ Some s → v < length owners
owner-below [] v s e = cc
owner-below (o ∷ os) zero s e = omega arith
owner-below (o ∷ os) (suc v) s e = omega (arith, owner-below os v s e)

-- ---- rankings
-- does v rank before w, where these are their sites?
abbrev pub pair_test : Sites → ℕ → ℕ → Option ℕ → Option ℕ → Bool
pair_test sites v w None t = false
pair_test sites v w (Some s) None = false
pair_test sites v w (Some s) (Some t) = ltb (sites.index s) (sites.index t) || (eqb s t && ltb w v)

-- then it does
pair_test-ranks : (sites : Sites) (v w : ℕ) (o p : Option ℕ) → sites.site v ≡ o → sites.site w ≡ p → pair_test sites v w o p ≡ true → RanksBefore sites v w
pair_test-ranks sites v w None p e f t = cc
pair_test-ranks sites v w (Some s) None e f t = cc
pair_test-ranks sites v w (Some s) (Some u) e f t = (s, u, e, f, by_case (or_cases (ltb (sites.index s) (sites.index u)) (eqb s u && ltb w v) t)) where
  by_case : (ltb (sites.index s) (sites.index u) ≡ true) ⊎ ((eqb s u && ltb w v) ≡ true) → (sites.index s < sites.index u) ⊎ ((s ≡ u) × (w < v))
  by_case (inl q) = inl (ltb-true (sites.index s) (sites.index u) q)
  by_case (inr q) = inr (eqb-true s u (and_parts (eqb s u) (ltb w v) q).0, ltb-true w v (and_parts (eqb s u) (ltb w v) q).1)

-- does each variable of the list rank before v?
abbrev pub rank_test : Sites → ℕ → List ℕ → Bool
rank_test sites v [] = true
rank_test sites v (w ∷ ws) = pair_test sites w v (sites.site w) (sites.site v) && rank_test sites v ws

-- then each does
rank_test-ranks : (sites : Sites) (v : ℕ) (ws : List ℕ) → rank_test sites v ws ≡ true → (w : ℕ) → Member ws w → RanksBefore sites w v
rank_test-ranks sites v [] t w i = absurd i
rank_test-ranks sites v (u ∷ ws) t w (inl q) =
    let r : RanksBefore sites u v = pair_test-ranks sites u v (sites.site u) (sites.site v) refl refl
    (and_parts (pair_test sites u v (sites.site u) (sites.site v)) (rank_test sites v ws) t).0 in
    rw q r
rank_test-ranks sites v (u ∷ ws) t w (inr i) =
    rank_test-ranks sites v ws (and_parts (pair_test sites u v (sites.site u) (sites.site v)) (rank_test sites v ws) t).1 w i

-- does each variable of the list have a site, and rank after those that follow it?
abbrev pub ranked_test : Sites → List ℕ → Bool
ranked_test sites [] = true
ranked_test sites (v ∷ vs) = is_some (sites.site v) && (rank_test sites v vs && ranked_test sites vs)

-- what is some has a value
some_owner : (o : Option ℕ) → is_some o ≡ true → (s : ℕ) × (o ≡ Some s)
some_owner None e = cc
some_owner (Some s) e = (s, refl)

-- then the list is ranked
ranked_test-ranked : (sites : Sites) (vs : List ℕ) → ranked_test sites vs ≡ true → IsRanked sites vs
ranked_test-ranked sites [] t = tt
ranked_test-ranked sites (v ∷ vs) t =
    let a = and_parts (is_some (sites.site v)) (rank_test sites v vs && ranked_test sites vs) t in
    let b = and_parts (rank_test sites v vs) (ranked_test sites vs) a.1 in
    let o = some_owner (sites.site v) a.0 in
    (o.0, o.1, rank_test-ranks sites v vs b.0, ranked_test-ranked sites vs b.1)

-- is w in the list?
abbrev pub member_test : List ℕ → ℕ → Bool
member_test [] w = false
member_test (v ∷ vs) w = eqb w v || member_test vs w

-- then it is
member_test-member : (vs : List ℕ) (w : ℕ) → member_test vs w ≡ true → Member vs w
member_test-member [] w t = cc
member_test-member (v ∷ vs) w t = elim (or_cases (eqb w v) (member_test vs w) t) [ inl q ↦ inl (eqb-true w v q) | inr q ↦ inr (member_test-member vs w q) ]

-- is each number of the list below n?
abbrev pub below_test : ℕ → List ℕ → Bool
below_test n [] = true
below_test n (v ∷ vs) = ltb v n && below_test n vs

-- then each is
below_test-below : (n : ℕ) (vs : List ℕ) → below_test n vs ≡ true → (v : ℕ) → Member vs v → v < n
below_test-below n [] t v i = absurd i
below_test-below n (u ∷ vs) t v (inl q) = let l : u < n = ltb-true u n (and_parts (ltb u n) (below_test n vs) t).0 in rw q l
below_test-below n (u ∷ vs) t v (inr i) = below_test-below n vs (and_parts (ltb u n) (below_test n vs) t).1 v i

-- each variable of a site is in the list
abbrev pub all_test : List (Option ℕ) → List ℕ → Bool
all_test owners vs = all_under (λ v. is_none (owner_in owners v) || member_test vs v) (length owners)

-- then it is
all_test-all : (owners : List (Option ℕ)) (vs : List ℕ) → all_test owners vs ≡ true → (v s : ℕ) → owner_in owners v ≡ Some s → Member vs v
all_test-all owners vs t v s e = elim (or_cases (is_none (owner_in owners v)) (member_test vs v)
    (all_under-at (λ u. is_none (owner_in owners u) || member_test vs u) (length owners) t v (owner-below owners v s e))) [
      | inl q ↦ (let r : is_none (Some s) ≡ true = rw e at q in cc)
      | inr q ↦ member_test-member vs v q
    ]

-- a ranking, by tests
pub ranking-by : (n : ℕ) (owners : List (Option ℕ)) (indices vs : List ℕ) → ranked_test (sites_of owners indices) vs ≡ true
    → all_test owners vs ≡ true → below_test n vs ≡ true → IsRanking n (sites_of owners indices) vs
ranking-by n owners indices vs r a b =
    record { ranked = ranked_test-ranked (sites_of owners indices) vs r; all = all_test-all owners vs a; below = below_test-below n vs b }

-- ---- indices that differ
-- do two owners, if both are sites, differ in their indices or not at all?
abbrev pub differ_pair : Sites → Option ℕ → Option ℕ → Bool
differ_pair sites None p = true
differ_pair sites (Some s) None = true
differ_pair sites (Some s) (Some t) = not (eqb (sites.index s) (sites.index t)) || eqb s t

-- does that hold for any two variables?
abbrev pub differ_test : List (Option ℕ) → List ℕ → Bool
differ_test owners indices =
    all_under (λ v. all_under (λ w. differ_pair (sites_of owners indices) (owner_in owners v) (owner_in owners w)) (length owners)) (length owners)

-- the test at two owners that are known
differ_pair-at : (sites : Sites) (s t : ℕ) (o p : Option ℕ) → o ≡ Some s → p ≡ Some t → differ_pair sites o p ≡ true
    → differ_pair sites (Some s) (Some t) ≡ true
differ_pair-at sites s t o p e f d = rw e at (rw f at d)

-- the second of two tests, where the first fails to exclude it
not_same : (a b : Bool) → a ≡ true → (not a || b) ≡ true → b ≡ true
not_same true b e d = d
not_same false b e d = cc

-- the indices differ, by a test
pub differ-by : (owners : List (Option ℕ)) (indices : List ℕ) → differ_test owners indices ≡ true → IndicesDiffer (sites_of owners indices)
differ-by owners indices d = record { differ = one } where
  sites : Sites
  sites = sites_of owners indices

  one : (v w s t : ℕ) → Of sites v s → Of sites w t → sites.index s ≡ sites.index t → s ≡ t
  one v w s t a b e =
      let row : all_under (λ u. differ_pair sites (owner_in owners v) (owner_in owners u)) (length owners) ≡ true =
      all_under-at (λ z. all_under (λ u. differ_pair sites (owner_in owners z) (owner_in owners u)) (length owners)) (length owners) d v
      (owner-below owners v s a) in
      let pair : differ_pair sites (owner_in owners v) (owner_in owners w) ≡ true =
      all_under-at (λ u. differ_pair sites (owner_in owners v) (owner_in owners u)) (length owners) row w (owner-below owners w t b) in
      eqb-true s t (not_same (eqb (sites.index s) (sites.index t)) (eqb s t) (eq-eqb (sites.index s) (sites.index t) e)
      (differ_pair-at sites s t (owner_in owners v) (owner_in owners w) a b pair))

-- ---- monomials
-- is it 0?
abbrev pub zero_test : ℤ → Bool
zero_test (pos zero) = true
zero_test (pos (suc n)) = false
zero_test (negsuc n) = false

-- then it is
zero_test-zero : (z : ℤ) → zero_test z ≡ true → z ≡ pos 0
zero_test-zero (pos zero) t = refl
zero_test-zero (pos (suc n)) t = cc
zero_test-zero (negsuc n) t = cc

-- and if not, it isn't
zero_test-not : (z : ℤ) → not (zero_test z) ≡ true → z ≢ pos 0
zero_test-not (pos zero) t e = cc
zero_test-not (pos (suc n)) t e = cc
zero_test-not (negsuc n) t e = cc

-- is a in the list?
abbrev pub in_test : List (List ℕ) → List ℕ → Bool
in_test [] a = false
in_test (x ∷ xs) a = same_vector a x || in_test xs a

-- then it is
in_test-in : (xs : List (List ℕ)) (a : List ℕ) → in_test xs a ≡ true → In xs a
in_test-in [] a t = cc
in_test-in (x ∷ xs) a t = elim (or_cases (same_vector a x) (in_test xs a) t) [ inl q ↦ inl (same_vector-is a x q) | inr q ↦ inr (in_test-in xs a q) ]

-- is each vector of the list a monomial of e?
abbrev pub monomials_test : ℕ → Tree → List (List ℕ) → Bool
monomials_test n e [] = true
monomials_test n e (m ∷ ms) = (eqb (length m) n && not (zero_test (normal_coefficient e m))) && monomials_test n e ms

-- then each is
monomials_test-monomials : (n : ℕ) (e : Tree) (ms : List (List ℕ)) → monomials_test n e ms ≡ true → (m : List ℕ) → In ms m → IsMonomial n e m
monomials_test-monomials n e [] t m i = absurd i
monomials_test-monomials n e (k ∷ ms) t m (inl q) =
    let a = and_parts (eqb (length k) n && not (zero_test (normal_coefficient e k))) (monomials_test n e ms) t in
    let b = and_parts (eqb (length k) n) (not (zero_test (normal_coefficient e k))) a.0 in
    let r : IsMonomial n e k = record { size = eqb-true (length k) n b.0; nonzero = zero_test-not (normal_coefficient e k) b.1 } in
    rw q r
monomials_test-monomials n e (k ∷ ms) t m (inr i) =
    monomials_test-monomials n e ms (and_parts (eqb (length k) n && not (zero_test (normal_coefficient e k))) (monomials_test n e ms) t).1 m i

-- each term's vector has coefficient 0 or is in the list
abbrev pub terms_test : Tree → List (List ℕ) → List Term → Bool
terms_test e ms [] = true
terms_test e ms (t ∷ f) = (zero_test (normal_coefficient e t.exponents) || in_test ms t.exponents) && terms_test e ms f

-- then each monomial is in the list
terms_test-in : (e : Tree) (ms : List (List ℕ)) (f : List Term) → terms_test e ms f ≡ true → (m : List ℕ) → normal_coefficient e m ≢ pos 0
    → factor_at f m ≢ pos 0 → In ms m
terms_test-in e ms [] t m z h = absurd (h refl)
terms_test-in e ms (s ∷ f) t m z h = by_case (same_vector s.exponents m) refl (terms_test-in e ms f rest m z) where
  here : (zero_test (normal_coefficient e s.exponents) || in_test ms s.exponents) ≡ true
  here = (and_parts (zero_test (normal_coefficient e s.exponents) || in_test ms s.exponents) (terms_test e ms f) t).0

  rest : terms_test e ms f ≡ true
  rest = (and_parts (zero_test (normal_coefficient e s.exponents) || in_test ms s.exponents) (terms_test e ms f) t).1

  found : s.exponents ≡ m → (zero_test (normal_coefficient e s.exponents) ≡ true) ⊎ (in_test ms s.exponents ≡ true) → In ms m
  found q (inl y) = absurd (z (ap (normal_coefficient e) (sym q) ∙ zero_test-zero (normal_coefficient e s.exponents) y))
  found q (inr y) = let i : In ms s.exponents = in_test-in ms s.exponents y in rw q at i

  by_case : (b : Bool) → same_vector s.exponents m ≡ b → (factor_at f m ≢ pos 0 → In ms m) → In ms m
  by_case true q ih = found (same_vector-is s.exponents m q) (or_cases (zero_test (normal_coefficient e s.exponents)) (in_test ms s.exponents) here)
  by_case false q ih = ih (λ y. h (let p : factor_at (s ∷ f) m ≡ factor_at f m = rw q (omega (arith, ints)) in p ∙ y))

-- the monomials, by tests
monomials-by : (n : ℕ) (e : Tree) (ms : List (List ℕ)) → InputsBelow n e → monomials_test n e ms ≡ true
    → terms_test e ms (expanded n e) ≡ true → AreMonomials n e ms
monomials-by n e ms below s t = record {
  monomials = monomials_test-monomials n e ms s;
  all = λ m k. terms_test-in e ms (expanded n e) t m k.nonzero (λ y. k.nonzero (normal_is n e below m k.size ∙ y));
}

-- ---- exponents below a bound
-- is each exponent below the bound?
abbrev pub bound_test : ℕ → List (List ℕ) → Bool
bound_test bound [] = true
bound_test bound (m ∷ ms) = below_test bound m && bound_test bound ms

-- then each of one vector is, also past its end
get-below : (bound : ℕ) (m : List ℕ) → 0 < bound → below_test bound m ≡ true → (v : ℕ) → get_or m v 0 < bound
get-below bound [] p t v = p
get-below bound (k ∷ m) p t zero = ltb-true k bound (and_parts (ltb k bound) (below_test bound m) t).0
get-below bound (k ∷ m) p t (suc v) = get-below bound m p (and_parts (ltb k bound) (below_test bound m) t).1 v

-- and each of all vectors
bound-by : (bound : ℕ) (ms : List (List ℕ)) → 0 < bound → bound_test bound ms ≡ true → AllBelow bound ms
bound-by bound [] p t m v i = absurd i
bound-by bound (k ∷ ms) p t m v (inl q) =
    let l : get_or k v 0 < bound = get-below bound k p (and_parts (below_test bound k) (bound_test bound ms) t).0 v in
    rw q l
bound-by bound (k ∷ ms) p t m v (inr i) = bound-by bound ms p (and_parts (below_test bound k) (bound_test bound ms) t).1 m v i

-- ---- the stage list of a small predicate, computed by the walk
-- all tests together
abbrev pub stages_test : ℕ → List (Option ℕ) → List ℕ → Tree → ℕ → List ℕ → List (List ℕ) → Bool
stages_test n owners indices e bound vs ms =
    (ranked_test (sites_of owners indices) vs && (all_test owners vs && below_test n vs))
    && ((monomials_test n e ms && terms_test e ms (expanded n e)) && (ltb 0 bound && bound_test bound ms))

-- the stage list is what the walk returns, by tests
pub stages-by : (n : ℕ) (owners : List (Option ℕ)) (indices : List ℕ) (e : Tree) (bound : ℕ) (vs : List ℕ) (ms : List (List ℕ)) → InputsBelow n e
    → stages_test n owners indices e bound vs ms ≡ true → IsStageList n (sites_of owners indices) e (walk bound vs ms (zeros n)).0
stages-by n owners indices e bound vs ms below t =
    let sites : Sites = sites_of owners indices in
    let a = and_parts (ranked_test sites vs && (all_test owners vs && below_test n vs))
    ((monomials_test n e ms && terms_test e ms (expanded n e)) && (ltb 0 bound && bound_test bound ms)) t in
    let b = and_parts (ranked_test sites vs) (all_test owners vs && below_test n vs) a.0 in
    let c = and_parts (all_test owners vs) (below_test n vs) b.1 in
    let d = and_parts (monomials_test n e ms && terms_test e ms (expanded n e)) (ltb 0 bound && bound_test bound ms) a.1 in
    let f = and_parts (monomials_test n e ms) (terms_test e ms (expanded n e)) d.0 in
    let g = and_parts (ltb 0 bound) (bound_test bound ms) d.1 in
    walk-stages n sites e bound vs ms (ranking-by n owners indices vs b.0 c.0 c.1) (monomials-by n e ms below f.0 f.1)
    (bound-by bound ms (ltb-true 0 bound g.0) g.1)

-- ---- the order along a ranking
-- the first difference along a ranking decides
pub earlier-by : (n : ℕ) (sites : Sites) (vs a b : List ℕ) → IsRanking n sites vs → Lex vs a b → Earlier sites a b
earlier-by n sites vs a b r l = (lex-is sites vs a b r.ranked r.all).0 l
