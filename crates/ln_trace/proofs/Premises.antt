-- Proves what the judge knows by the stages of a polynomial and the exponents of a line.
use Rattle.std.proofs.Common.{◌≡◌, ℕ, ◌<◌, ◌≤◌, zero, suc, true, List, [], ◌∷◌, length, map, get_or, refl, sym, ◌∙◌, ap, arith, subst, ◌⊎◌, inl, inr, Some}
use Rattle.std.proofs.Common.{None, ◌↔◌, Bool, ◌+◌, ◌-◌, ◌++◌, take, drop, false, true≢false}
use Rattle.std.specs.Prelude.{All, Contains, slice_get, Option, IsTrue, MatchOption}
use Rattle.std.specs.Option.{option_map}
use Rattle.std.proofs.Math.IntN.{ℤ}
use Rattle.std.proofs.lemmas.Bool.{cases_lt}
use Rattle.std.proofs.lemmas.List.{get_or-map, get_or_past, length-map}
use Rattle.std.proofs.lemmas.Option.{get_or_from_slice_get, slice_get-get_or, slice_get-map, slice_get_within, same_Some}
use Rattle.ln_algebra.specs.Earlier.{IsOver, Earlier, IndicesDiffer, Sites}
use Rattle.ln_algebra.specs.Stage.{IsStageList, IsStage}
use Rattle.ln_algebra.specs.Tree.{Tree, InputsBelow}
use Rattle.ln_tree.specs.declared.shape.Shape.{Shape}
use Rattle.ln_tree.specs.declared.shape.VarInfo.{VarInfo}
use Rattle.ln_tree.specs.Exps.{IsAbove, Pairs, exponent, vector, IsRising}
use Rattle.ln_tree.proofs.Powers.{power-apart, vector-get, vector-length}
use Rattle.ln_order.specs.Orders.{IsOrderOf, orders_of}
use Rattle.ln_order.specs.Prefixes.{prefixes_of, segments_from, joined}
use Rattle.ln_order.specs.Sites.{row_sites, site_of, sites_of}
use Rattle.ln_order.proofs.Listing.OrdersLemmas.{is-member}
use Rattle.ln_order.proofs.Listing.PrefixLemmas.{beside-all}
use Rattle.ln_poly.specs.Sparse.{Sparse}
use Rattle.ln_stage.specs.StageList.{IsStageListOf}
use Rattle.ln_stage.specs.Staged.{Staged, block_vector, segment_of}
use Rattle.ln_stage.proofs.Monomials.LawLemmas.{lists-of-trees}
use Rattle.ln_code.specs.Kept.{AreOfSites, is_of_site}
use Rattle.ln_order.specs.Places.{order_places}
use Rattle.ln_trace.specs.declared.progress.Progress.{Progress}
use Rattle.ln_trace.specs.Here.{HasPoly, IsAtRow, IsCase}
use Rattle.ln_trace.specs.Left.{IsSpot, exps_at, left_at, numbers_at}
use Rattle.ln_trace.specs.declared.pointer.Spot.{Spot}
use Rattle.ln_trace.specs.ToldLaw.{IsLeft, NoneIsEarlier}
use Rattle.ln_trace.proofs.Telling.{all_left, first-left, first_stands, other-stands}
use Rattle.ln_algebra.specs.Vector.{In}
use Rattle.ln_trace.specs.Told.{AreZero, LastIsEarlier, Stood, IsNext, vectors_in}
use Rattle.ln_trace.specs.Next.{IsLastOf, MayBeNext}
use Rattle.std.specs.List.{range_with_len}
use Rattle.ln_algebra.proofs.Walking.Cut.{of_sites, within}
use Rattle.ln_algebra.proofs.Deriving.Derived.{derivative-coefficient}
use Rattle.ln_algebra.specs.Sign.{perturbed}
use Rattle.ln_algebra.specs.Terms.{IsNormalOf, Term, derived, value}
use Rattle.ln_tree.specs.Row.{InRange, Row, values}
use Rattle.ln_order.specs.Order.{IsOrder}
use Rattle.ln_order.proofs.Signs.RowsLemmas.{orders-rows}

module _ (s : Shape) (row : Row) (places : List ℕ) (range : InRange s.sites s.vars row) (ord : IsOrder row.index places) (e : Tree) (stood : Stood) where
  same : (a b : List ℕ) → Earlier (row_sites s.vars row.index) a b ↔ Earlier (sites_of s.vars places) a b
  same a b = orders-rows s.sites s.vars row.index places a b s.kept range.size (λ k d h. (range.indices k d h).0) ord

  over-to : (a : List ℕ) → IsOver (length s.vars) (row_sites s.vars row.index) a → IsOver (length s.vars) (sites_of s.vars places) a
  over-to a o = record { size = o.size; of_sites = o.of_sites }

  over-from : (a : List ℕ) → IsOver (length s.vars) (sites_of s.vars places) a → IsOver (length s.vars) (row_sites s.vars row.index) a
  over-from a o = record { size = o.size; of_sites = o.of_sites }

  stage-to : (b : List ℕ) → IsStage (length s.vars) (row_sites s.vars row.index) e b → IsStage (length s.vars) (sites_of s.vars places) e b
  stage-to b h = record { over = over-to b h.over; covered = h.covered; before_cut = λ c o l y. h.before_cut c (over-from c o) l ((same c b).1 y) }

  stage-from : (b : List ℕ) → IsStage (length s.vars) (sites_of s.vars places) e b → IsStage (length s.vars) (row_sites s.vars row.index) e b
  stage-from b h = record { over = over-from b h.over; covered = h.covered; before_cut = λ c o l y. h.before_cut c (over-to c o) l ((same c b).0 y) }

  last-to : (stood : Stood) (a : List ℕ) → LastIsEarlier (row_sites s.vars row.index) stood a → LastIsEarlier (sites_of s.vars places) stood a
  last-to [] a h = tt
  last-to (p ∷ stood) a h = (same p.0 a).0 h

  last-from : (stood : Stood) (a : List ℕ) → LastIsEarlier (sites_of s.vars places) stood a → LastIsEarlier (row_sites s.vars row.index) stood a
  last-from [] a h = tt
  last-from (p ∷ stood) a h = (same p.0 a).1 h

  abbrev Next : List ℤ → List ℕ → ℤ → Type 0
  Next zs a z = IsNext (length s.vars) (row_sites s.vars row.index) (values zs) e stood a z

  -- what may stand by the row's own indices may by the order
  pub next-may : (zs : List ℤ) (a : List ℕ) (z : ℤ) → Next zs a z → MayBeNext (length s.vars) (sites_of s.vars places) e stood a
  next-may zs a z n = record { zeros = n.zeros; later = last-to stood a n.later; members = λ b k l. n.members b (stage-from b k) ((same b a).1 l) }

  -- where each stage by the row's own indices stood, each stage by the order did
  pub all-to : ((b : List ℕ) → IsStage (length s.vars) (row_sites s.vars row.index) e b → In (vectors_in stood) b) → (b : List ℕ)
      → IsStage (length s.vars) (sites_of s.vars places) e b → In (vectors_in stood) b
  all-to h b k = h b (stage-from b k)

  -- where each stage by the order stood, each stage by the row's own indices did
  pub all-from : ((b : List ℕ) → IsStage (length s.vars) (sites_of s.vars places) e b → In (vectors_in stood) b) → (b : List ℕ)
      → IsStage (length s.vars) (row_sites s.vars row.index) e b → In (vectors_in stood) b
  all-from h b k = h b (stage-to b k)

  -- what may not stand by the order fails
  pub not-next : (zs : List ℤ) (a : List ℕ) (z : ℤ) (r : Bool) → r ≡ false
      → (IsTrue r ↔ MayBeNext (length s.vars) (sites_of s.vars places) e stood a) → IsTrue false ↔ Next zs a z
  not-next zs a z r f h = (λ t. cc, λ n. absurd (true≢false (sym (h.1 (next-may zs a z n)) ∙ f)))

  coefficient : (zs : List ℤ) (f : List Term) (a : List ℕ) → InputsBelow (length s.vars) e → IsNormalOf (length s.vars) e f
      → IsOver (length s.vars) (row_sites s.vars row.index) a → value (values zs) (derived a f) ≡ perturbed (row_sites s.vars row.index) (values zs) e a
  coefficient zs f a below h o = derivative-coefficient (length s.vars) e f (of_sites (row_sites s.vars row.index))
      (values zs) a below h o.size (within (length s.vars) (row_sites s.vars row.index) (values zs) e below a o)

  -- another value fails
  pub other-value : (zs : List ℤ) (f : List Term) (a : List ℕ) (v z : ℤ) → InputsBelow (length s.vars) e → IsNormalOf (length s.vars) e f
      → IsOver (length s.vars) (row_sites s.vars row.index) a → v ≡ value (values zs) (derived a f) → (v ≡ z → ⊥) → IsTrue false ↔ Next zs a z
  other-value zs f a v z below h o q d = (λ t. cc, λ n. absurd (d (q ∙ coefficient zs f a below h o ∙ sym n.value)))

  -- and the right one goes on
  pub is-next : (zs : List ℤ) (f : List Term) (a : List ℕ) (v z : ℤ) (r : Bool) → InputsBelow (length s.vars) e
      → IsNormalOf (length s.vars) e f → IsOver (length s.vars) (row_sites s.vars row.index) a → v ≡ value (values zs) (derived a f) → v ≡ z
      → r ≡ true → (IsTrue r ↔ MayBeNext (length s.vars) (sites_of s.vars places) e stood a) → IsTrue true ↔ Next zs a z
  is-next zs f a v z r below h o q d t k =
      let m = k.0 t in (
        λ u. record {
          over = o;
          later = last-from stood a m.later;
          zeros = m.zeros;
          members = λ b g l. m.members b (stage-to b g) ((same b a).0 l);
          value = sym d ∙ q ∙ coefficient zs f a below h o;
        },
        λ n. refl,
      )

-- ---- numbers of blocks
-- the numbers in each segment are those of stages
pub case-numbers : (s : Shape) (f : Sparse) (st : Staged) → IsCase s f st → (q : List ℕ) → All (λ i. i < length st.exps) (segment_of st q)
case-numbers s f st h q = beside-all (λ i. i < length st.exps) (prefixes_of st.sites) st.segments q h.stages.segments.numbers

-- ---- exponents of blocks
exps-above : (n : ℕ) (exps : List Pairs) → All (λ e. IsAbove e n) exps → (i : ℕ) → IsAbove (get_or exps i []) n
exps-above n exps h i = by_case (cases_lt i (length exps)) where
  by_case : (i < length exps) ⊎ (length exps ≤ i) → IsAbove (get_or exps i []) n
  by_case (inl l) = h i [] l
  by_case (inr l) = subst (λ (e : Pairs). IsAbove e n) (sym (get_or_past exps i [] l)) tt

-- the variables in the exponents of each remaining stage are below the number of variables
pub case-above : (s : Shape) (f : Sparse) (st : Staged) → IsCase s f st → (o : List ℕ) (p : Spot) → All (λ b. IsAbove b (length s.vars)) (left_at st o p)
case-above s f st h o p = each (numbers_at st o p.sites p.at) where
  each : (list : List ℕ) → All (λ b. IsAbove b (length s.vars)) (exps_at st list)
  each list k d l =
      let w : k < length list = omega (arith, l, length-map list (λ (i : ℕ). get_or st.exps i [])) in
      let e : get_or (exps_at st list) k d ≡ get_or st.exps (get_or list k 0) [] = get_or-map (λ (i : ℕ). get_or st.exps i []) list k 0 d w in
      subst (λ (b : Pairs). IsAbove b (length s.vars)) (sym e) (exps-above (length s.vars) st.exps h.stages.below (get_or list k 0))

-- ---- the stage list of an order
module _ (s : Shape) (f : Sparse) (st : Staged) (h : IsCase s f st) (o : List ℕ) (order : IsOrderOf s.sites o) where
  list : List ℕ
  list = segments_from (segment_of st) o 0

  place : Contains (orders_of s.sites) o
  place = is-member s.sites o order

  at : slice_get (orders_of s.sites) place.0 ≡ Some o
  at = slice_get-get_or (orders_of s.sites) place.0 o place.1 ∙ ap (λ (z : List ℕ). Some z) place.2

  there : slice_get st.lists place.0 ≡ Some (segments_from (segment_of st) o 0)
  there =
      ap (λ (xs : List (List ℕ)). slice_get xs place.0) h.stages.segments.make
      ∙ slice_get-map (λ u. segments_from (segment_of st) u 0) (orders_of s.sites) place.0
      ∙ ap (option_map (λ u. segments_from (segment_of st) u 0)) at

  worked : IsStageListOf (length s.vars) (sites_of s.vars o) f (map (block_vector (length s.vars) st.exps) (segments_from (segment_of st) o 0))
  worked =
      let n : ℕ = length s.vars in
      let g : List ℕ → List (List ℕ) = λ ks. map (block_vector (length s.vars) st.exps) ks in
      let numbers : List ℕ = segments_from (segment_of st) o 0 in
      let in_lists : slice_get (map g st.lists) place.0 ≡ Some (g numbers) = slice_get-map g st.lists place.0 ∙ ap (option_map g) there in
      let here : get_or (map g st.lists) place.0 [] ≡ g numbers = get_or_from_slice_get (map g st.lists) place.0 (g numbers) [] in_lists in
      let same : get_or (orders_of s.sites) place.0 [] ≡ o = get_or_from_slice_get (orders_of s.sites) place.0 o [] at in
      let b : place.0 < length (map g st.lists) = slice_get_within (map g st.lists) place.0 (g numbers) in_lists in
      let k = h.stages.lists.each place.0 b in
      subst (λ (q : List (List ℕ)). IsStageListOf (length s.vars) (sites_of s.vars o) f q) here
      (subst (λ (q : List ℕ). IsStageListOf (length s.vars) (sites_of s.vars q) f (get_or (map g st.lists) place.0 [])) same k)

  as-vectors : (ks : List ℕ) → map (block_vector (length s.vars) st.exps) ks ≡ map (vector (length s.vars)) (exps_at st ks)
  as-vectors [] = refl
  as-vectors (k ∷ ks) = ap (λ (vs : List (List ℕ)). vector (length s.vars) (get_or st.exps k []) ∷ vs) (as-vectors ks)

  -- at a row's begin all stages remain
  pub left-first : (e : Tree) → HasPoly s e f
      → IsLeft (length s.vars) (sites_of s.vars o) e [] (map (vector (length s.vars)) (left_at st o (record { sites = 0; at = 0 })))
  left-first e p =
      let l : IsStageList (length s.vars) (sites_of s.vars o) e (map (block_vector (length s.vars) st.exps) (segments_from (segment_of st) o 0)) =
      (lists-of-trees (length s.vars) (sites_of s.vars o) e f _ p.normal).0 worked in
      all_left (length s.vars) (sites_of s.vars o) e _
      (subst (λ (q : List (List ℕ)). IsStageList (length s.vars) (sites_of s.vars o) e q) (as-vectors (segments_from (segment_of st) o 0)) l)

  -- the beginning of the first segment is a place in the list of an order
  pub spot-first : IsSpot st o (record { sites = 0; at = 0 })
  spot-first = record { sites = omega arith; at = omega arith }

-- ---- exponents of coordinates of sites
site-some : (vars : List VarInfo) (v : ℕ) → is_of_site (slice_get vars v) ≡ true → site_of vars v ≡ None → ⊥
site-some [] v h e = cc
site-some (x ∷ vars) zero h e = cc
site-some (x ∷ vars) (suc v) h e = site-some vars v h e

none-there : (vars : List VarInfo) (v : ℕ) (a : Pairs) → AreOfSites vars a → site_of vars v ≡ None → exponent v a ≡ 0
none-there vars v [] h e = refl
none-there vars v (p ∷ a) h e =
    omega (arith, power-apart v p (λ (q : p.0 ≡ v). site-some vars p.0 h.0 (subst (λ (w : ℕ). site_of vars w ≡ None) (sym q) e)), none-there vars v a h.1 e)

-- and the vector of their exponents is one over the variables of sites
pub sites-over : (vars : List VarInfo) (index : List ℤ) (a : Pairs) → AreOfSites vars a → IsOver (length vars) (row_sites vars index) (vector (length vars) a)
sites-over vars index a h = record { size = vector-length (length vars) a; of_sites = λ v e. by_case v e (cases_lt v (length vars)) } where
  by_case : (v : ℕ) → site_of vars v ≡ None → (v < length vars) ⊎ (length vars ≤ v) → get_or (vector (length vars) a) v 0 ≡ 0
  by_case v e (inl l) = vector-get (length vars) v a l ∙ none-there vars v a h e
  by_case v e (inr l) = get_or_past (vector (length vars) a) v 0 (omega (arith, l, vector-length (length vars) a))

-- ---- the order that is held
-- the order that is held has a place for each site of the shape
pub size-at : (s : Shape) (st : Staged) (d : Progress) → IsAtRow s st d → length (order_places d.order) ≡ s.sites
size-at s st d at = at.order.size ∙ at.range.size

-- the order that is held has a place for each site of the stages
pub size-staged : (s : Shape) (f : Sparse) (st : Staged) (d : Progress) → IsCase s f st → IsAtRow s st d → length (order_places d.order) ≡ st.sites
size-staged s f st d c at = size-at s st d at ∙ sym c.stages.sites

-- ---- the last
-- where exponents were kept as the last, the test of them decides whether the last vector is earlier than a
pub behind-some : (n : ℕ) (sites : Sites) (o : Option Pairs) (a b : Pairs) (flag r : Bool) → o ≡ Some b
    → (IsTrue r ↔ Earlier sites (vector n b) (vector n a)) → (stood : Stood) → IsLastOf n o flag stood → IsTrue r ↔ LastIsEarlier sites stood (vector n a)
behind-some n sites None a b flag r e h stood l = cc
behind-some n sites (Some c) a b flag r e h [] l = absurd l
behind-some n sites (Some c) a b flag r e h (p ∷ stood) l =
    let q : p.0 ≡ vector n b = l.0 ∙ ap (vector n) (same_Some c b e) in
    subst (λ v. IsTrue r ↔ Earlier sites v (vector n a)) (sym q) h

zeros-of : (n : ℕ) (o : Option Pairs) (flag : Bool) (stood : Stood) → IsLastOf n o flag stood → flag ≡ true → AreZero stood
zeros-of n o flag [] l e = tt
zeros-of n None flag (p ∷ stood) l e = absurd l
zeros-of n (Some c) flag (p ∷ stood) l e = (l.2.0 e, l.1)

always : {A : Type 0} → A → IsTrue true ↔ A
always x = (λ t. x, λ y. refl)

module _ (n : ℕ) (sites : Sites) (o : Option Pairs) (flag : Bool) (a : List ℕ) (e : Tree) (stood : Stood) (differ : IndicesDiffer sites)
    (last : IsLastOf n o flag stood) where
  -- it isn't, or none remains
  pub may : (left : List (List ℕ)) → flag ≡ true → (r : Bool) → r ≡ true → (IsTrue r ↔ LastIsEarlier sites stood a)
      → NoneIsEarlier sites left a → IsLeft n sites e stood left → IsTrue true ↔ MayBeNext n sites e stood a
  may left z r t h none i =
      always (record { zeros = zeros-of n o flag stood last z; later = h.0 t; members = (first-left n sites e differ stood left a i).0 none })

-- where the first remaining one isn't earlier, none is
pub none-earlier : (sites : Sites) (left : List (List ℕ)) (a b : List ℕ) (rest : List (List ℕ)) → left ≡ b ∷ rest → (Earlier sites b a → ⊥)
    → NoneIsEarlier sites left a
none-earlier sites left a b rest q h = subst (λ l. NoneIsEarlier sites l a) (sym q) h

-- ---- the rest after it
module _ (n : ℕ) (sites : Sites) (a : List ℕ) (e : Tree) (stood : Stood) (z : ℤ) (differ : IndicesDiffer sites) (over : IsOver n sites a)
    (m : MayBeNext n sites e stood a) where
  -- once a vector stood that is the first remaining stage, those after it remain
  pub was-first : (left : List (List ℕ)) (b : List ℕ) (rest : List (List ℕ)) → left ≡ b ∷ rest → b ≡ a → IsLeft n sites e stood left
      → IsLeft n sites e ((a, z) ∷ stood) rest
  was-first left b rest q s h = first_stands n sites e stood rest a z (subst (IsLeft n sites e stood) (q ∙ ap (λ c. c ∷ rest) s) h)

  -- once a vector stood that isn't the first remaining stage, the same stages remain
  pub was-other : (left : List (List ℕ)) (b : List ℕ) (rest : List (List ℕ)) → left ≡ b ∷ rest → (b ≡ a → ⊥) → IsLeft n sites e stood left
      → IsLeft n sites e ((a, z) ∷ stood) left
  was-other left b rest q s h = other-stands n sites e differ stood left a z over h none (λ i. out (subst (λ l. In l a) q i)) where
    none : NoneIsEarlier sites left a
    none = (first-left n sites e differ stood left a h).1 m.members

    at-first : Earlier sites b a → ⊥
    at-first = subst (λ l. NoneIsEarlier sites l a) q none

    sorted : IsLeft n sites e stood (b ∷ rest)
    sorted = subst (IsLeft n sites e stood) q h

    out : In (b ∷ rest) a → ⊥
    out (inl y) = s (sym y)
    out (inr y) = at-first (sorted.in_order.0 a y)

-- the first segment, and those after it
pub segments-cons : {A : Type 0} (segment : List ℕ → List A) (places : List ℕ) (j : ℕ) → j ≤ length places
    → segments_from segment places j ≡ segment (take j places) ++ segments_from segment places (j + 1)
segments-cons segment places j h =
    let e : suc (length places) - j ≡ suc (suc (length places) - (j + 1)) = omega arith in
    ap (λ k. joined (map (λ i. segment (take i places)) (range_with_len j k))) e

drop-within : {A : Type 0} (xs ys : List A) (i : ℕ) (d : A) → i < length xs → drop i (xs ++ ys) ≡ get_or xs i d ∷ drop (i + 1) (xs ++ ys)
drop-within [] ys i d h = absurd (omega arith)
drop-within (x ∷ xs) ys zero d h = refl
drop-within (x ∷ xs) ys (suc i) d h = let q : suc i + 1 ≡ suc (i + 1) = omega arith in rw q (drop-within xs ys i d (omega (arith, h)))

drop-past : {A : Type 0} (xs ys : List A) (i : ℕ) → i ≡ length xs → drop i (xs ++ ys) ≡ ys
drop-past [] ys i h = rw h refl
drop-past (x ∷ xs) ys zero h = absurd (omega (arith, h))
drop-past (x ∷ xs) ys (suc i) h = drop-past xs ys i (omega (arith, h))

-- the number at a place in a segment is the first remaining one
pub left-here : (st : Staged) (places segment : List ℕ) (j at : ℕ) (d : ℕ) → j ≤ length places → segment ≡ segment_of st (take j places)
    → at < length segment → numbers_at st places j at ≡ get_or segment at d ∷ numbers_at st places j (at + 1)
left-here st places segment j at d h e l =
    let c = segments-cons (segment_of st) places j h in
    let i : at < length (segment_of st (take j places)) = subst (λ (s : List ℕ). at < length s) e l in
    ap (drop at) c ∙ drop-within (segment_of st (take j places)) (segments_from (segment_of st) places (j + 1)) at d i
    ∙ ap (λ (s : List ℕ). get_or s at d ∷ drop (at + 1) (segment_of st (take j places) ++ segments_from (segment_of st) places (j + 1))) (sym e)
    ∙ ap (λ (s : List ℕ). get_or segment at d ∷ drop (at + 1) s) (sym c)

-- at its end the next segment remains
pub left-behind : (st : Staged) (places segment : List ℕ) (j at : ℕ) → j ≤ length places → segment ≡ segment_of st (take j places)
    → at ≤ length (segment_of st (take j places)) → length segment ≤ at → numbers_at st places j at ≡ numbers_at st places (j + 1) 0
left-behind st places segment j at h e l g =
    let c = segments-cons (segment_of st) places j h in
    let i : length segment ≡ length (segment_of st (take j places)) = ap length e in
    ap (drop at) c ∙ drop-past (segment_of st (take j places)) (segments_from (segment_of st) places (j + 1)) at (omega (arith, l, g, i))

-- exponents that are returned where they rise are returned where their variables are also coordinates of sites, if they are
pub of-sites : (vars : List VarInfo) (a : Pairs) (o : Option Pairs) → AreOfSites vars a → MatchOption o (IsRising a → ⊥) (λ e. (e ≡ a) × IsRising a)
    → MatchOption o (IsRising a → AreOfSites vars a → ⊥) (λ e. (e ≡ a) × IsRising a × AreOfSites vars a)
of-sites vars a None s h = λ r t. h r
of-sites vars a (Some e) s h = (h.0, h.1, s)

-- what was read is a: its variables rise, and each is a coordinate of a site
pub record WasRead (vars : List VarInfo) (a e : Pairs) : Type 0 where
  pub same : e ≡ a
  pub rising : IsRising e
  pub sites : AreOfSites vars e

some-in : (vars : List VarInfo) (a e : Pairs) (o : Option Pairs) → o ≡ Some e
    → MatchOption o (IsRising a → AreOfSites vars a → ⊥) (λ x. (x ≡ a) × IsRising a × AreOfSites vars a) → (e ≡ a) × IsRising a × AreOfSites vars a
some-in vars a e o q h = subst (λ (x : Option Pairs). MatchOption x (IsRising a → AreOfSites vars a → ⊥) (λ y. (y ≡ a) × IsRising a × AreOfSites vars a)) q h

-- where `exps_of` returned exponents, they were read so
pub was-read : (vs vars : List VarInfo) (a e : Pairs) (o : Option Pairs) → vs ≡ vars → o ≡ Some e
    → MatchOption o (IsRising a → AreOfSites vs a → ⊥) (λ x. (x ≡ a) × IsRising a × AreOfSites vs a) → WasRead vars a e
was-read vs vars a e o v q h =
    let r = some-in vs a e o q h in
    record {
      same = r.0;
      rising = subst IsRising (sym r.0) r.1;
      sites = subst (λ (x : Pairs). AreOfSites vars x) (sym r.0) (subst (λ (ws : List VarInfo). AreOfSites ws a) v r.2);
    }
