-- The walk over the variables of sites, by rising infinitesimal, returns the stage list.
use Rattle.std.proofs.Common.{◌≡◌, ℕ, ◌<◌, ◌≤◌, zero, suc, refl, sym, ◌∙◌, arith, List, [], ◌∷◌, length, get_or, Bool, true, leb, Option}
use Rattle.std.proofs.Common.{Some, None, ◌⊎◌, inl, inr}
use Rattle.std.proofs.lemmas.Bool.{and_parts, le-leb, leb-true}
use Rattle.ln_algebra.proofs.Expanded.Expansion.{length-zeros}
use Rattle.ln_algebra.proofs.Ordering.Order.{before-irreflexive}
use Rattle.ln_algebra.proofs.Ordering.Ranking.{lex-is, member}
use Rattle.ln_algebra.proofs.Walking.Walk.{CoversOn, Distinct, Fresh, Inside, Last, Lex, Listing, Region, Sorted, listing-walk}
use Rattle.ln_algebra.proofs.Walking.Walk as walk_of
use Rattle.ln_algebra.specs.Earlier.{Earlier, IsInOrder, IsOver, Of, Sites}
use Rattle.ln_algebra.specs.Stage.{CoveredBy, IsCutOf, IsMonomial, IsStageBy, IsStageList, IsStageListBy}
use Rattle.ln_algebra.specs.Tree.{Tree}
use Rattle.ln_algebra.specs.Vector.{covers, zeros}
use Rattle.ln_algebra.specs.Walk.{AllBelow, AreMonomials, AreMonomialsBy, IsRanked, IsRanking, Member, walk}

-- ---- covers, variable by variable
-- then each exponent is at least the other's
pub covers-get : (m a : List ℕ) → covers m a ≡ true → (v : ℕ) → get_or a v 0 ≤ get_or m v 0
covers-get [] [] c v = omega arith
covers-get [] (k ∷ a) c v = cc
covers-get (n ∷ m) [] c v = cc
covers-get (n ∷ m) (k ∷ a) c zero = leb-true k n (and_parts (leb k n) (covers m a) c).0
covers-get (n ∷ m) (k ∷ a) c (suc v) = covers-get m a (and_parts (leb k n) (covers m a) c).1 v

-- and the other way
pub covers-from : (m a : List ℕ) → length m ≡ length a → ((v : ℕ) → get_or a v 0 ≤ get_or m v 0) → covers m a ≡ true
covers-from [] [] e h = refl
covers-from [] (k ∷ a) e h = absurd (omega arith)
covers-from (n ∷ m) [] e h = absurd (omega arith)
covers-from (n ∷ m) (k ∷ a) e h = rw (le-leb k n (h 0)) (covers-from m a (omega arith) (λ v. h (suc v)))

-- the same on some variables alone
pub CoversOn-get : (vs m a : List ℕ) → CoversOn vs m a → (v : ℕ) → Member vs v → get_or a v 0 ≤ get_or m v 0
CoversOn-get [] m a c v i = absurd i
CoversOn-get (u ∷ vs) m a c v (inl e) = rw e c.0
CoversOn-get (u ∷ vs) m a c v (inr i) = CoversOn-get vs m a c.1 v i

-- and the other way
pub CoversOn-from : (vs m a : List ℕ) → ((v : ℕ) → get_or a v 0 ≤ get_or m v 0) → CoversOn vs m a
CoversOn-from [] m a h = tt
CoversOn-from (v ∷ vs) m a h = (h v, CoversOn-from vs m a h)

-- ---- rankings
-- each exponent is 0
pub zeros-get : (n v : ℕ) → get_or (zeros n) v 0 ≡ 0
zeros-get zero v = refl
zeros-get (suc n) zero = refl
zeros-get (suc n) (suc v) = zeros-get n v

-- a variable that isn't a member is none of them
pub fresh_from : (vs : List ℕ) (v : ℕ) → (Member vs v → ⊥) → Fresh v vs
fresh_from [] v h = tt
fresh_from (u ∷ vs) v h = (λ e. h (inl e), fresh_from vs v (λ i. h (inr i)))

-- and the other way
pub fresh-not : (vs : List ℕ) (v : ℕ) → Fresh v vs → Member vs v → ⊥
fresh-not [] v f i = i
fresh-not (u ∷ vs) v f (inl e) = f.0 e
fresh-not (u ∷ vs) v f (inr i) = fresh-not vs v f.1 i

-- each variable of the list has a site
pub ranked-site : (sites : Sites) (vs : List ℕ) → IsRanked sites vs → (v : ℕ) → Member vs v → (s : ℕ) × Of sites v s
ranked-site sites [] r v i = absurd i
ranked-site sites (u ∷ vs) r v (inl e) = (r.0, rw e r.1)
ranked-site sites (u ∷ vs) r v (inr i) = ranked-site sites vs r.3 v i

-- no variable occurs twice in a ranking
pub ranked-distinct : (sites : Sites) (vs : List ℕ) → IsRanked sites vs → Distinct vs
ranked-distinct sites [] r = tt
ranked-distinct sites (v ∷ vs) r = (fresh_from vs v (λ i. before-irreflexive sites v (r.2 v i)), ranked-distinct sites vs r.3)

-- each is below n
pub inside_from : (n : ℕ) (vs : List ℕ) → ((v : ℕ) → Member vs v → v < n) → Inside vs n
inside_from n [] h = tt
inside_from n (v ∷ vs) h = (h v (inl refl), inside_from n vs (λ u i. h u (inr i)))

-- ---- the walk's words and those of the stages
module _ (n : ℕ) (sites : Sites) (M : List ℕ → Type 0) (sized : (m : List ℕ) → M m → length m ≡ n) (vs : List ℕ) (ms : List (List ℕ))
    (rank : IsRanking n sites vs) (mono : AreMonomialsBy M ms) where
  -- earlier along the ranking is earlier
  earlier_of : (a b : List ℕ) → Lex vs a b → Earlier sites a b
  earlier_of a b = (lex-is sites vs a b rank.ranked rank.all).0

  -- and the other way
  lex_of : (a b : List ℕ) → Earlier sites a b → Lex vs a b
  lex_of a b = (lex-is sites vs a b rank.ranked rank.all).1

  -- outside the ranking the exponents are 0
  off : (a : List ℕ) → Region vs (zeros n) a → (v : ℕ) → (Member vs v → ⊥) → get_or a v 0 ≡ 0
  off a r v h = r.off v (fresh_from vs v h) ∙ zeros-get n v

  -- a vector of the region is one over the variables of sites
  over_of : (a : List ℕ) → Region vs (zeros n) a → IsOver n sites a
  over_of a r = record { size = r.size ∙ length-zeros n; of_sites = λ v q. off a r v (λ i. not_of v q (ranked-site sites vs rank.ranked v i)) } where
    not_of : (v : ℕ) → sites.site v ≡ None → (s : ℕ) × Of sites v s → ⊥
    not_of v q o = let e : None ≡ Some o.0 = sym q ∙ o.1 in cc

  -- and the other way
  region_of : (a : List ℕ) → IsOver n sites a → Region vs (zeros n) a
  region_of a o = record { size = o.size ∙ sym (length-zeros n); off = λ v f. by_site v f (sites.site v) refl ∙ sym (zeros-get n v) } where
    by_site : (v : ℕ) → Fresh v vs → (s : Option ℕ) → sites.site v ≡ s → get_or a v 0 ≡ 0
    by_site v f None q = o.of_sites v q
    by_site v f (Some s) q = absurd (fresh-not vs v f (rank.all v s q))

  -- on the variables of sites, and so on all
  covers_all : (m a : List ℕ) → M m → Region vs (zeros n) a → CoversOn vs m a → covers m a ≡ true
  covers_all m a k r c = covers-from m a (sized m k ∙ sym (over_of a r).size) (λ v. by_member v (member vs v)) where
    by_member : (v : ℕ) → Member vs v ⊎ (Member vs v → ⊥) → get_or a v 0 ≤ get_or m v 0
    by_member v (inl i) = CoversOn-get vs m a c v i
    by_member v (inr d) = omega (arith, off a r v d)

  -- covered by the list is covered by a monomial
  covered_of : (a : List ℕ) → Region vs (zeros n) a → walk_of.Covered vs ms a → CoveredBy M a
  covered_of a r c = (c.0, mono.monomials c.0 c.1, covers_all c.0 a (mono.monomials c.0 c.1) r c.2)

  -- and the other way
  of_covered : (a : List ℕ) → CoveredBy M a → walk_of.Covered vs ms a
  of_covered a c = (c.0, mono.all c.0 c.1, CoversOn-from vs c.0 a (covers-get c.0 a c.2))

  -- the last of the list is the cut
  last_of : (a : List ℕ) → Region vs (zeros n) a → Last vs ms a → IsCutOf M a
  last_of a r l = record { monomial = mono.monomials a l.here; only = λ m k c. l.only m (mono.all m k) (CoversOn-from vs m a (covers-get m a c)) }

  -- and the other way
  of_last : (a : List ℕ) → Region vs (zeros n) a → IsCutOf M a → Last vs ms a
  of_last a r l = record { here = mono.all a l.monomial; only = λ m i c. l.only m (mono.monomials m i) (covers_all m a (mono.monomials m i) r c) }

  -- sorted along the ranking is in order
  in_order_of : (xs : List (List ℕ)) → Sorted vs xs → IsInOrder sites xs
  in_order_of [] s = tt
  in_order_of (x ∷ xs) s = (λ b i. earlier_of x b (s.0 b i), in_order_of xs s.1)

  -- a listing of the whole region is the stage list
  stage_list_of : (found : List (List ℕ)) (stop : Bool) → Listing (Region vs (zeros n)) vs ms found stop → IsStageListBy (Earlier sites) n sites M found
  stage_list_of found stop x = record {
    stages = λ a i. record {
      over = over_of a (x.inside a i);
      covered = covered_of a (x.inside a i) (x.covered a i);
      before_cut = λ b o l k. x.uncut a i b (region_of b o) (of_last b (region_of b o) l) (lex_of b a k);
    };
    all = λ a s. x.complete a (region_of a s.over) (of_covered a s.covered) (λ b r l k. s.before_cut b (over_of b r) (last_of b r l) (earlier_of b a k));
    in_order = in_order_of found x.sorted;
  }

-- the walk lists the stages
pub walk-stages-by : (n : ℕ) (sites : Sites) (M : List ℕ → Type 0) → ((m : List ℕ) → M m → length m ≡ n) → (bound : ℕ) (vs : List ℕ) (ms : List (List ℕ))
    → IsRanking n sites vs → AreMonomialsBy M ms → AllBelow bound ms → IsStageListBy (Earlier sites) n sites M (walk bound vs ms (zeros n)).0
walk-stages-by n sites M sized bound vs ms rank mono small =
    stage_list_of n sites M sized vs ms rank mono (walk bound vs ms (zeros n)).0 (walk bound vs ms (zeros n)).1
    (listing-walk bound vs ms (zeros n) (ranked-distinct sites vs rank.ranked)
    (let z : length (zeros n) ≡ n = length-zeros n in rw z (inside_from n vs rank.below)) small)

-- those of an expression
pub walk-stages : (n : ℕ) (sites : Sites) (e : Tree) (bound : ℕ) (vs : List ℕ) (ms : List (List ℕ)) → IsRanking n sites vs
    → AreMonomials n e ms → AllBelow bound ms → IsStageList n sites e (walk bound vs ms (zeros n)).0
walk-stages n sites e = walk-stages-by n sites (IsMonomial n e) (λ m k. k.size)

-- ---- two sets of monomials that are one have the same stages
module _ (before : List ℕ → List ℕ → Type 0) (n : ℕ) (sites : Sites) (M N : List ℕ → Type 0) (to : (m : List ℕ) → M m → N m)
    (from : (m : List ℕ) → N m → M m) where
  cut-to : (a : List ℕ) → IsCutOf N a → IsCutOf M a
  cut-to a l = record { monomial = from a l.monomial; only = λ m k c. l.only m (to m k) c }

  -- a stage by the monomials of the one set is a stage by those of the other
  pub stage-to : (a : List ℕ) → IsStageBy before n sites M a → IsStageBy before n sites N a
  stage-to a s = record {
    over = s.over;
    covered = (s.covered.0, to s.covered.0 s.covered.1, s.covered.2);
    before_cut = λ b o l r. s.before_cut b o (cut-to b l) r;
  }

-- and so a stage list over one of two such sets is one over the other
pub stage_list-to : (before : List ℕ → List ℕ → Type 0) (n : ℕ) (sites : Sites) (M N : List ℕ → Type 0) → ((m : List ℕ) → M m → N m)
    → ((m : List ℕ) → N m → M m) → (list : List (List ℕ)) → IsStageListBy before n sites M list → IsStageListBy before n sites N list
stage_list-to before n sites M N to from list s = record {
  stages = λ a i. stage-to before n sites M N to from a (s.stages a i);
  all = λ a k. s.all a (stage-to before n sites N M from to a k);
  in_order = s.in_order;
}
