-- The layers give the graded stage list of an expression; the degree of its end is the same for each order of the sites.
use Rattle.std.proofs.Common.{◌≡◌, ℕ, ◌+◌, ◌<◌, ◌≤◌, zero, suc, refl, sym, ◌∙◌, arith, subst, List, [], ◌∷◌, length, get_or, set, Bool}
use Rattle.std.proofs.Common.{true, Option, Some, None, ◌⊎◌, inl, inr}
use Rattle.std.proofs.lemmas.Bool.{cases_eq}
use Rattle.std.proofs.lemmas.List.{get_or-set_other, get_or-set_same}
use Rattle.ln_algebra.proofs.Expanded.Expansion.{length-zeros}
use Rattle.ln_algebra.proofs.Ordering.Ranking.{lex-is, member}
use Rattle.ln_algebra.proofs.Walking.Stages.{CoversOn-from, CoversOn-get, covers-from, covers-get, fresh-not, fresh_from, inside_from}
use Rattle.ln_algebra.proofs.Walking.Stages.{ranked-distinct, ranked-site, zeros-get}
use Rattle.ln_algebra.proofs.Walking.Walk.{CoversOn, Distinct, Fresh, Inside, Last, Region, inside_set}
use Rattle.ln_algebra.proofs.Walking.Walk as walk_of
use Rattle.ln_algebra.specs.Earlier.{IsOver, Of, Sites}
use Rattle.ln_algebra.specs.Stage.{CoveredBy, IsCutOf, IsMonomial, IsStageListBy, IsStageListIn}
use Rattle.ln_algebra.specs.Tree.{Tree}
use Rattle.ln_algebra.specs.Vector.{In, covers, total_degree, zeros}
use Rattle.ln_algebra.specs.Walk.{AreMonomials, AreMonomialsBy, IsRanking, Member}
use Rattle.ln_algebra.specs.Layers.{DegreesBelow, degree_on, layers}
use Rattle.ln_algebra.specs.Orders.{GradedEarlier}
use Rattle.ln_algebra.proofs.Walking.Listings.{Listing, Same, listing-moves}
use Rattle.ln_algebra.proofs.Walking.Layers.{FromDegree, Graded, listing-layers}

-- ---- the total degree, over the variables of a list
zero-total : (a : List ℕ) → ((u : ℕ) → get_or a u 0 ≡ 0) → total_degree a ≡ 0
zero-total [] h = refl
zero-total (x ∷ a) h = omega (arith, h 0, zero-total a (λ u. h (suc u)))

-- the total degree is that of the vector with the exponent of v set to 0, plus that exponent
pub total-set : (a : List ℕ) (v : ℕ) → v < length a → total_degree (set a v 0) + get_or a v 0 ≡ total_degree a
total-set [] v l = absurd (omega (arith, l))
total-set (x ∷ a) zero l = omega arith
total-set (x ∷ a) (suc v) l = omega (arith, total-set a v (omega (arith, l)))

-- the degree on some variables stays where the exponent of another variable is set to 0
pub degree_on-set : (vs a : List ℕ) (v : ℕ) → Fresh v vs → degree_on vs (set a v 0) ≡ degree_on vs a
degree_on-set [] a v f = refl
degree_on-set (u ∷ vs) a v f = omega (arith, get_or-set_other a v u 0 0 (λ q. f.0 (sym q)), degree_on-set vs a v f.1)

degree_on-total : (vs a : List ℕ) → Distinct vs → Inside vs (length a) → ((u : ℕ) → Fresh u vs → get_or a u 0 ≡ 0) → degree_on vs a ≡ total_degree a
degree_on-total [] a t i h = sym (zero-total a (λ u. h u tt))
degree_on-total (v ∷ vs) a t i h =
    let ih : degree_on vs (set a v 0) ≡ total_degree (set a v 0) =
    degree_on-total vs (set a v 0) t.1 (inside_set vs a v 0 i.1) (λ u f. off u f (cases_eq u v)) in
    omega (arith, ih, degree_on-set vs a v t.0, total-set a v i.0) where
      off : (u : ℕ) → Fresh u vs → (u ≡ v) ⊎ (u ≡ v → ⊥) → get_or (set a v 0) u 0 ≡ 0
      off u f (inl q) = rw q (get_or-set_same a v 0 0 i.0)
      off u f (inr d) = get_or-set_other a v u 0 0 d ∙ h u (d, f)

-- ---- the layers' words and those of the stages
module _ (n : ℕ) (sites : Sites) (M : List ℕ → Type 0) (size : (m : List ℕ) → M m → length m ≡ n) (vs : List ℕ) (ms : List (List ℕ))
    (rank : IsRanking n sites vs) (in_set : (m : List ℕ) → In ms m → M m) (of_set : (m : List ℕ) → M m → In ms m) where
  off : (a : List ℕ) → Region vs (zeros n) a → (v : ℕ) → Fresh v vs → get_or a v 0 ≡ 0
  off a r v f = r.off v f ∙ zeros-get n v

  over_of : (a : List ℕ) → Region vs (zeros n) a → IsOver n sites a
  over_of a r = record {
    size = r.size ∙ length-zeros n;
    of_sites = λ v q. off a r v (fresh_from vs v (λ i. not_of v q (ranked-site sites vs rank.ranked v i)));
  } where
    not_of : (v : ℕ) → sites.site v ≡ None → (s : ℕ) × Of sites v s → ⊥
    not_of v q o = let e : None ≡ Some o.0 = sym q ∙ o.1 in cc

  region_of : (a : List ℕ) → IsOver n sites a → Region vs (zeros n) a
  region_of a o = record { size = o.size ∙ sym (length-zeros n); off = λ v f. by_site v f (sites.site v) refl ∙ sym (zeros-get n v) } where
    by_site : (v : ℕ) → Fresh v vs → (s : Option ℕ) → sites.site v ≡ s → get_or a v 0 ≡ 0
    by_site v f None q = o.of_sites v q
    by_site v f (Some s) q = absurd (fresh-not vs v f (rank.all v s q))

  covers_all : (m a : List ℕ) → M m → Region vs (zeros n) a → CoversOn vs m a → covers m a ≡ true
  covers_all m a k r c = covers-from m a (size m k ∙ sym (over_of a r).size) (λ v. by_member v (member vs v)) where
    by_member : (v : ℕ) → Member vs v ⊎ (Member vs v → ⊥) → get_or a v 0 ≤ get_or m v 0
    by_member v (inl i) = CoversOn-get vs m a c v i
    by_member v (inr d) = omega (arith, off a r v (fresh_from vs v d))

  distinct : Distinct vs
  distinct = ranked-distinct sites vs rank.ranked

  inside : Inside vs (length (zeros n))
  inside = (let z : length (zeros n) ≡ n = length-zeros n in rw z (inside_from n vs rank.below))

  -- the degree on the ranking is the total degree
  whole : (a : List ℕ) → Region vs (zeros n) a → degree_on vs a ≡ total_degree a
  whole a r = degree_on-total vs a distinct (subst (λ (k : ℕ). Inside vs k) (sym r.size) inside) (off a r)

  same : Same (Graded vs) (GradedEarlier sites) (FromDegree vs 0 (zeros n)) (IsOver n sites) (walk_of.Covered vs ms) (CoveredBy M) (Last vs ms) (IsCutOf M)
  same = record {
    to = λ a h. over_of a h.0;
    from = λ a o. (region_of a o, omega arith);
    covered_to = λ a h c. (c.0, in_set c.0 c.1, covers_all c.0 a (in_set c.0 c.1) h.0 c.2);
    covered_from = λ a h c. (c.0, of_set c.0 c.1, CoversOn-from vs c.0 a (covers-get c.0 a c.2));
    last_to = λ a h l. record { monomial = in_set a l.here; only = λ m k c. l.only m (of_set m k) (CoversOn-from vs m a (covers-get m a c)) };
    last_from = λ a h l. record { here = of_set a l.monomial; only = λ m i c. l.only m (in_set m i) (covers_all m a (in_set m i) h.0 c) };
    order_to = λ a b h g l. elim l [
      | inl k ↦ inl (omega (arith, k, whole a h.0, whole b g.0))
      | inr k ↦ inr (omega (arith, k.0, whole a h.0, whole b g.0), (lex-is sites vs a b rank.ranked rank.all).0 k.1)
    ];
    order_from = λ a b h g l. elim l [
      | inl k ↦ inl (omega (arith, k, whole a h.0, whole b g.0))
      | inr k ↦ inr (omega (arith, k.0, whole a h.0, whole b g.0), (lex-is sites vs a b rank.ranked rank.all).1 k.1)
    ];
  }

-- a listing of all vectors over the variables of sites is the stage list, in any order
pub listing-stages : (before : List ℕ → List ℕ → Type 0) (n : ℕ) (sites : Sites) (M : List ℕ → Type 0) (found : List (List ℕ)) (stop : Bool)
    → Listing before (IsOver n sites) (CoveredBy M) (IsCutOf M) found stop → IsStageListBy before n sites M found
listing-stages before n sites M found stop x = record {
  stages = λ a i. record { over = x.inside a i; covered = x.are_covered a i; before_cut = λ b o l k. x.uncut a i b o l k };
  all = λ a s. x.complete a s.over s.covered s.before_cut;
  in_order = x.sorted;
}

-- what the layers list, over any set of monomials
pub layers-listing : (n : ℕ) (sites : Sites) (M : List ℕ → Type 0) (limit : ℕ) (vs : List ℕ) (ms : List (List ℕ)) → ((m : List ℕ) → M m → length m ≡ n) →
    IsRanking n sites vs → ((m : List ℕ) → In ms m → M m) → ((m : List ℕ) → M m → In ms m) → DegreesBelow limit vs ms →
    Listing (GradedEarlier sites) (IsOver n sites) (CoveredBy M) (IsCutOf M) (layers limit 0 vs ms (zeros n)).0 (layers limit 0 vs ms (zeros n)).1
layers-listing n sites M limit vs ms size rank in_set of_set low =
    listing-moves (Graded vs) (GradedEarlier sites) (FromDegree vs 0 (zeros n)) (IsOver n sites) (walk_of.Covered vs ms) (CoveredBy M) (Last vs ms) (IsCutOf M)
    (layers limit 0 vs ms (zeros n)).0 (layers limit 0 vs ms (zeros n)).1 (same n sites M size vs ms rank in_set of_set)
    (listing-layers vs ms (zeros n) limit (distinct n sites M size vs ms rank in_set of_set)
    (inside n sites M size vs ms rank in_set of_set) low limit 0 (omega arith))

-- the layers list the graded stages
pub layers-stages-by : (n : ℕ) (sites : Sites) (M : List ℕ → Type 0) → ((m : List ℕ) → M m → length m ≡ n)
    → (limit : ℕ) (vs : List ℕ) (ms : List (List ℕ)) → IsRanking n sites vs → AreMonomialsBy M ms → DegreesBelow limit vs ms
    → IsStageListBy (GradedEarlier sites) n sites M (layers limit 0 vs ms (zeros n)).0
layers-stages-by n sites M size limit vs ms rank mono low =
    listing-stages (GradedEarlier sites) n sites M (layers limit 0 vs ms (zeros n)).0 (layers limit 0 vs ms (zeros n)).1
    (layers-listing n sites M limit vs ms size rank mono.monomials mono.all low)

-- those of an expression
pub layers-stages : (n : ℕ) (sites : Sites) (e : Tree) (limit : ℕ) (vs : List ℕ) (ms : List (List ℕ)) → IsRanking n sites vs
    → AreMonomials n e ms → DegreesBelow limit vs ms → IsStageListIn (GradedEarlier sites) n sites e (layers limit 0 vs ms (zeros n)).0
layers-stages n sites e = layers-stages-by n sites (IsMonomial n e) (λ m k. k.size)
