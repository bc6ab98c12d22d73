-- The list of an order in a part whose lists stand whole at their orders.
use Rattle.std.proofs.Common.{◌≡◌, ℕ, ◌+◌, ◌-◌, ◌<◌, ◌≤◌, zero, suc, Bool, true, false, List, [], ◌∷◌, length, map, take, refl, sym, ◌∙◌, ap, append-nil, arith}
use Rattle.std.proofs.Common.{get_or, subst, ◌↔◌, ◌++◌, drop, append_assoc}
use Rattle.std.specs.Prelude.{All, Some, slice_get, if◌then◌else◌, ◌==◌, nat_lt, slice_index_or}
use Rattle.std.specs.List.{range_with_len}
use Rattle.std.specs.Option.{option_map}
use Rattle.std.proofs.lemmas.Bool.Decides.{nat_tests}
use Rattle.std.proofs.lemmas.List.{length-take, take_all, drop_all, length-map}
use Rattle.std.proofs.lemmas.Option.{slice_get-get_or, slice_get-map, get_or_from_slice_get, slice_get_within}
use Rattle.ln_algebra.specs.Vector.{same_vector}
use Rattle.ln_algebra.proofs.Expanded.Normal.{same_vector-is, same_vector-refl}
use Rattle.ln_tree.specs.declared.shape.Shape.{Shape}
use Rattle.ln_order.specs.Orders.{IsOrderOf, orders_of}
use Rattle.ln_order.specs.Prefixes.{beside, joined, number_of_front, prefixes_of, segments_from}
use Rattle.ln_order.proofs.Listing.OrdersLemmas.{is-member, member-is}
use Rattle.ln_order.proofs.Listing.PrefixLemmas.{beside_at, beside-all, front_number}
use Rattle.ln_order.proofs.Signs.SitesLemmas.{kept}
use Rattle.ln_code.specs.Lists.{IsListOf, list_of, segment_of}
use Rattle.ln_verify.specs.AsPart.{part_of, segment_at}
use Rattle.ln_verify.specs.Line.{Written, IsNextList, Subject, named}
use Rattle.std.proofs.lemmas.List.Elements.{All-cons, All-head, All-nil, All-tail}
use Rattle.ln_base.proofs.Texts.Lists.{head, rest}
use Rattle.ln_algebra.specs.Earlier.{IndicesDiffer}
use Rattle.ln_tree.specs.Exps.{IsAbove, IsRising, Pairs, same_pairs, same_pairs-is, vector}
use Rattle.ln_tree.specs.Variables.{is_laid_out}
use Rattle.ln_order.specs.declared.order.Order.{Order}
use Rattle.ln_order.specs.Places.{order_places}
use Rattle.ln_order.specs.Sites.{sites_of}
use Rattle.ln_order.proofs.Signs.RowSigns.{orders-differ}
use Rattle.ln_poly.proofs.Sorting.Collected.{vectors-same as same-pairs}
use Rattle.ln_stage.specs.StageList.{IsStageListOf}
use Rattle.ln_stage.specs.Staged.{AreStagesOf, Staged, block_vector, segment_of as staged_segment}
use Rattle.ln_stage.proofs.Monomials.LawLemmas.{list-unique}
use Rattle.ln_stage.proofs.Walks.PairsLemmas.{same_pairs-refl}
use Rattle.ln_verify.specs.Orders.{HasVector, SameStages}

-- ---- what is beside a list
-- the first list has p at some place, and the second has there what is beside p
pub record StandsAt (qs ss : List (List ℕ)) (p : List ℕ) : Type 0 where
  pub at : ℕ
  pub there : slice_get qs at ≡ Some p
  pub beside_it : slice_get ss at ≡ Some (beside qs ss p)

beside-there : (qs ss : List (List ℕ)) (p : List ℕ) (i : ℕ) → slice_get qs i ≡ Some p → length ss ≡ length qs → StandsAt qs ss p
beside-there [] ss p i h e = cc
beside-there (q ∷ qs) [] p i h e = absurd (omega (arith, e))
beside-there (q ∷ qs) (s ∷ ss) p i h e = go (same_vector q p) refl i h (λ m f. beside-there qs ss p m f (omega (arith, e)))
  where
    go : (b : Bool) → same_vector q p ≡ b → (i : ℕ) → slice_get (q ∷ qs) i ≡ Some p → ((m : ℕ) → slice_get qs m ≡ Some p → StandsAt qs ss p)
        → StandsAt (q ∷ qs) (s ∷ ss) p
    go true t i h ih = record { at = 0; there = ap (λ z. Some z) (same_vector-is q p t); beside_it = rw t refl }
    go false t zero h ih = let z : q ≡ p = cc in let u : true ≡ false = sym (same_vector-refl q) ∙ ap (same_vector q) z ∙ t in absurd cc
    go false t (suc i) h ih = let r = ih i h in record { at = suc r.at; there = r.there; beside_it = rw t r.beside_it }

-- ---- one segment after the other
joined-last : (g : ℕ → List ℕ) (a n : ℕ) (list : List ℕ) → ((i : ℕ) → i < a + n → g i ≡ []) → g (a + n) ≡ list
    → joined (map g (range_with_len a (suc n))) ≡ list
joined-last g a zero list h e =
    let z : a + 0 ≡ a = omega arith in
    let t : g a ≡ list = subst (λ k. g k ≡ list) z e in
    append-nil (g a) ∙ t
joined-last g a (suc n) list h e =
    let z : a + suc n ≡ (a + 1) + n = omega arith in
    let r = joined-last g (a + 1) n list (λ i l. h i (omega (arith, l))) (subst (λ k. g k ≡ list) z e) in
    let f : g a ≡ [] = h a (omega arith) in
    rw f r

module _ (s : Shape) (w : Written) (size : length w.lists ≡ length (orders_of s.sites)) where
  few : s.sites ≤ 5
  few = (kept s.sites s.vars s.kept).few_sites

  segment-is : (o : List ℕ) (j : ℕ) → IsOrderOf s.sites o → j ≤ s.sites → segment_of (part_of s w) (take j o) ≡ segment_at s.sites w.lists (take j o)
  segment-is o j p l =
      let n = front_number s.sites o j few p l in
      beside_at s.sites (map (segment_at s.sites w.lists) (prefixes_of s.sites)) (take j o) (number_of_front o j) (segment_at s.sites w.lists (take j o)) few n
      (slice_get-map (segment_at s.sites w.lists) (prefixes_of s.sites) (number_of_front o j) ∙ ap (option_map (segment_at s.sites w.lists)) n)

  other-length : (m k : ℕ) → m < k → (m == k) ≡ false
  other-length m k l = grind (arith, nat_tests)

  own-length : (m k : ℕ) → m ≡ k → (m == k) ≡ true
  own-length m k l = grind (arith, nat_tests)

  short-none : (o : List ℕ) (j : ℕ) → IsOrderOf s.sites o → j < s.sites → segment_of (part_of s w) (take j o) ≡ []
  short-none o j p l =
      let n : length (take j o) < s.sites = omega (arith, l, length-take j o, p.size) in
      let e = other-length (length (take j o)) s.sites n in
      segment-is o j p (omega (arith, l)) ∙ rw e refl

  whole-list : (o : List ℕ) → IsOrderOf s.sites o → segment_of (part_of s w) (take s.sites o) ≡ beside (orders_of s.sites) w.lists o
  whole-list o p =
      let t = take_all s.sites o (omega (arith, p.size)) in
      let e = own-length (length o) s.sites p.size in
      segment-is o s.sites p (omega arith) ∙ ap (segment_at s.sites w.lists) t ∙ rw e refl

  -- the list of an order, joined from the segments of its prefixes, is the whole list that the listing has for the order
  pub list-is : (o : List ℕ) → IsOrderOf s.sites o → list_of (part_of s w) o ≡ beside (orders_of s.sites) w.lists o
  list-is o p =
      let c : suc (length o) - 0 ≡ suc s.sites = omega (arith, p.size) in
      ap (λ (n : ℕ). joined (map (λ i. segment_of (part_of s w) (take i o)) (range_with_len 0 n))) c
      ∙ joined-last (λ i. segment_of (part_of s w) (take i o)) 0 s.sites (beside (orders_of s.sites) w.lists o) (λ i l. short-none o i p (omega (arith, l)))
      (let z : 0 + s.sites ≡ s.sites = omega arith in ap (λ (m : ℕ). segment_of (part_of s w) (take m o)) z ∙ whole-list o p)

  -- the list of an order is the one that stands at its number
  pub list-stands : (o list : List ℕ) → IsListOf (part_of s w) o list → StandsAt (orders_of s.sites) w.lists o × (list ≡ beside (orders_of s.sites) w.lists o)
  list-stands o list h =
      let c = is-member s.sites o h.order in
      let i : slice_get (orders_of s.sites) c.0 ≡ Some o = slice_get-get_or (orders_of s.sites) c.0 o c.1 ∙ ap (λ z. Some z) c.2 in
      (beside-there (orders_of s.sites) w.lists o c.0 i size, h.list_is ∙ list-is o h.order)

  -- what holds of each number of the lists holds of those of the segments
  pub segments-all : (P : ℕ → Type 0) → ((k : ℕ) (list : List ℕ) → slice_get w.lists k ≡ Some list → All P list) → (p : List ℕ)
      → All P (segment_at s.sites w.lists p)
  segments-all P h p = go (length p == s.sites)
    where
      go : (b : Bool) → All P (if b then beside (orders_of s.sites) w.lists p else [])
      go true = beside-all P (orders_of s.sites) w.lists p (λ k d l. h k (get_or w.lists k d) (slice_get-get_or w.lists k d l))
      go false = λ i d l. absurd (omega (arith, l))

same_exps : (xs ys : Pairs) → (same_pairs xs ys ≡ true) ↔ (xs ≡ ys)
same_exps xs ys = (same_pairs-is xs ys, λ e. ap (same_pairs xs) (sym e) ∙ same_pairs-refl xs)

-- the test of one block
pub has-vector : (n : ℕ) (exps : List Pairs) (k : ℕ) (here a : Pairs) (b : Bool) → All (λ (e : Pairs). IsAbove e n) exps → IsAbove a n →
    IsRising here → IsRising a →
    true ≡ nat_lt k (length exps) → here ≡ slice_index_or exps k [] → b ≡ same_pairs here a → (b ≡ true) ↔ HasVector n exps k a
has-vector n exps k here a b all above r r' l e t =
    let s = same_exps here a in
    let w : k < length exps = grind (arith, nat_tests) in
    let i : IsAbove here n = subst (λ (x : Pairs). IsAbove x n) (sym e) (all k [] w) in
    (λ h. (w, ap (vector n) (sym e ∙ s.0 (sym t ∙ h))), λ h. t ∙ s.1 (same-pairs n here a r r' i above (ap (vector n) e ∙ h.1)))

-- past the last block there is none that has the vector
pub no-block : (n : ℕ) (exps : List Pairs) (k : ℕ) (a : Pairs) → length exps ≤ k → (false ≡ true) ↔ HasVector n exps k a
no-block n exps k a h = (λ e. cc, λ v. absurd (omega (arith, h, v.0)))

-- ---- block by block
module _ (n : ℕ) (exps stages : List Pairs) where
  -- from place i on, of two lists
  abbrev pub SameFrom : List ℕ → List ℕ → ℕ → Type 0
  SameFrom ks js i = SameStages n exps stages (drop i ks) (drop i js)

  -- the two at a place
  abbrev pub SameAt : List ℕ → List ℕ → ℕ → Type 0
  SameAt ks js i = HasVector n exps (get_or ks i 0) (get_or stages (get_or js i 0) [])

  turn : (ks js : List ℕ) (i : ℕ) → i < length ks → i < length js → SameFrom ks js i ↔ SameAt ks js i × SameFrom ks js (suc i)
  turn (k ∷ ks) (j ∷ js) zero h g = (λ x. x, λ x. x)
  turn (k ∷ ks) (j ∷ js) (suc i) h g = turn ks js i (omega arith) (omega arith)
  turn ks js i h g = absurd (omega arith)

  -- lists of two lengths aren't the same
  pub same-length : (ks js : List ℕ) → SameStages n exps stages ks js → length ks ≡ length js
  same-length [] [] h = refl
  same-length (k ∷ ks) (j ∷ js) h = ap suc (same-length ks js h.1)
  same-length ks js h = absurd h

  -- whether the rest is the same decides
  abbrev pub Decides : List ℕ → List ℕ → ℕ → Type 0
  Decides ks js i = SameFrom ks js i ↔ SameStages n exps stages ks js

  -- where the rest decides and the two at its first place aren't the same, the lists aren't
  pub decides-stop : (ks js : List ℕ) (i : ℕ) → i < length ks → length ks ≡ length js → Decides ks js i → (SameAt ks js i → ⊥)
      → SameStages n exps stages ks js → ⊥
  decides-stop ks js i h e d none s = none ((turn ks js i h (omega (arith, h, e))).0 (d.1 s)).0

  -- where the rest decides and the two at its first place are the same, what comes after them decides
  pub decides-next : (ks js : List ℕ) (i : ℕ) → i < length ks → length ks ≡ length js → Decides ks js i → SameAt ks js i → Decides ks js (i + 1)
  decides-next ks js i h e d y =
      let t = turn ks js i h (omega (arith, h, e)) in
      let w : suc i ≡ i + 1 = omega arith in
      subst (Decides ks js) w (λ s. d.0 (t.1 (y, s)), λ s. (t.0 (d.1 s)).1)

  -- where the rest decides and nothing remains, the lists are the same
  pub decides-end : (ks js : List ℕ) (i : ℕ) → length ks ≤ i → length ks ≡ length js → Decides ks js i → SameStages n exps stages ks js
  decides-end ks js i h e d =
      let a = drop_all i ks h in
      let b = drop_all i js (omega (arith, h, e)) in
      d.0 (rw (a, b) tt)

  -- ---- the same, as lists of vectors
  -- where blocks and stages are the same one by one, each number of a block is below the count of blocks
  pub same-within : (ks js : List ℕ) → SameStages n exps stages ks js → All (λ k. k < length exps) ks
  same-within [] js h = All-nil (λ k. k < length exps)
  same-within (k ∷ ks) [] h = absurd h
  same-within (k ∷ ks) (j ∷ js) h = All-cons (λ k. k < length exps) k ks h.0.0 (same-within ks js h.1)

  -- where blocks and stages are the same one by one, so are their lists of vectors
  pub same-vectors : (ks js : List ℕ) → SameStages n exps stages ks js → named n exps ks ≡ named n stages js
  same-vectors [] [] h = refl
  same-vectors (k ∷ ks) (j ∷ js) h = let a = h.0.1 in let r = same-vectors ks js h.1 in λ i. a i ∷ r i
  same-vectors ks js h = absurd h

  -- where the numbers are those of blocks and the lists of vectors are the same, so are blocks and stages one by one
  pub vectors-same : (ks js : List ℕ) → All (λ k. k < length exps) ks → named n exps ks ≡ named n stages js → SameStages n exps stages ks js
  vectors-same [] [] w e = tt
  vectors-same (k ∷ ks) (j ∷ js) w e =
      ((All-head (λ i. i < length exps) k ks w, head e), vectors-same ks js (All-tail (λ i. i < length exps) k ks w) (rest e))
  vectors-same ks js w e = absurd (cc)

-- ---- the rule
-- an order of the program's, among all
pub order-at : (orders : List Order) (sites before : ℕ) (o : Order) → map order_places orders ≡ orders_of sites → before < length orders
    → o ≡ get_or orders before o → slice_get (orders_of sites) before ≡ Some (order_places o)
order-at orders sites before o e l h =
    sym (ap (λ (xs : List (List ℕ)). slice_get xs before) e) ∙ slice_get-map order_places orders before
    ∙ ap (option_map order_places) (slice_get-get_or orders before o l ∙ ap (λ (x : Order). Some x) (sym h))

-- past them there is none
pub order-none : (orders : List Order) (sites before : ℕ) (places : List ℕ) → map order_places orders ≡ orders_of sites
    → length orders ≤ before → slice_get (orders_of sites) before ≡ Some places → ⊥
order-none orders sites before places e l h =
    let b : before < length (orders_of sites) = slice_get_within (orders_of sites) before places h in
    omega (arith, b, l, ap length e, length-map orders order_places)

module _ (p : Subject) (st : Staged) (laid : is_laid_out p.sites p.vars ≡ true) (stages : AreStagesOf p.sites p.vars p.poly st) (before : ℕ)
    (o : List ℕ) (at : slice_get (orders_of p.sites) before ≡ Some o) where
  -- how many variables the predicate has
  abbrev pub n : ℕ
  n = length p.vars

  -- the numbers of the stages of the order
  abbrev pub numbers : List ℕ
  numbers = segments_from (staged_segment st) o 0

  list-there : slice_get st.lists before ≡ Some numbers
  list-there =
      ap (λ (xs : List (List ℕ)). slice_get xs before) stages.segments.make
      ∙ slice_get-map (λ u. segments_from (staged_segment st) u 0) (orders_of p.sites) before
      ∙ ap (option_map (λ u. segments_from (staged_segment st) u 0)) at

  -- each of these numbers is that of exponents that the stages have
  pub numbers-are : All (λ i. i < length st.exps) numbers
  numbers-are = subst (λ (q : List ℕ). All (λ i. i < length st.exps) q) (get_or_from_slice_get st.lists before numbers [] list-there)
      (stages.numbers before [] (slice_get_within st.lists before numbers list-there))

  -- the stage list of the order, as it was worked out
  worked : IsStageListOf n (sites_of p.vars o) p.poly (named n st.exps numbers)
  worked =
      let g : List ℕ → List (List ℕ) = λ ks. map (block_vector n st.exps) ks in
      let there : slice_get (map g st.lists) before ≡ Some (g numbers) = slice_get-map g st.lists before ∙ ap (option_map g) list-there in
      let here : get_or (map g st.lists) before [] ≡ g numbers = get_or_from_slice_get (map g st.lists) before (g numbers) [] there in
      let order : get_or (orders_of p.sites) before [] ≡ o = get_or_from_slice_get (orders_of p.sites) before o [] at in
      let b : before < length (map g st.lists) = slice_get_within (map g st.lists) before (g numbers) there in
      let s = stages.lists.each before b in
      subst (λ (q : List (List ℕ)). IsStageListOf n (sites_of p.vars o) p.poly q) here
      (subst (λ (q : List ℕ). IsStageListOf n (sites_of p.vars q) p.poly (get_or (map g st.lists) before [])) order s)

  module _ (exps : List Pairs) (list : List ℕ) where
    next-list : SameStages n exps st.exps list numbers → IsNextList p exps before o list
    next-list s = record {
      order = at;
      within = same-within n exps st.exps list numbers s;
      stages = subst (λ (q : List (List ℕ)). IsStageListOf n (sites_of p.vars o) p.poly q) (sym (same-vectors n exps st.exps list numbers s)) worked;
    }

    list-same : IsNextList p exps before o list → SameStages n exps st.exps list numbers
    list-same h =
        let order : IsOrderOf p.sites o =
        member-is p.sites o (before, slice_get_within (orders_of p.sites) before o at, get_or_from_slice_get (orders_of p.sites) before o o at) in
        let differ : IndicesDiffer (sites_of p.vars o) = orders-differ p.sites p.vars o laid order in
        vectors-same n exps st.exps list numbers h.within
        (list-unique n (sites_of p.vars o) p.poly (named n exps list) (named n st.exps numbers) differ h.stages worked)

    -- whether the line is the next one, by the test of its list
    pub tested : (places : List ℕ) (b : Bool) → o ≡ places → All (λ (e : Pairs). IsAbove e n) exps →
        ((m : ℕ) → All (λ (e : Pairs). IsAbove e m) exps → All (λ (e : Pairs). IsAbove e m) st.exps → (b ≡ true) ↔ SameStages m exps st.exps list numbers) →
        (b ≡ true) ↔ IsNextList p exps before places list
    tested places b e above t =
        let s = t n above stages.below in (
          λ h. subst (λ (z : List ℕ). IsNextList p exps before z list) e (next-list (s.0 h)),
          λ h. s.1 (list-same (subst (λ (z : List ℕ). IsNextList p exps before z list) (sym e) h)),
        )

-- ---- one segment after the other
-- one list more: the joined lists of a, .., a + k are those up to a + k - 1, and then the last
pub joined-more : (g : ℕ → List ℕ) (a k : ℕ) → joined (map g (range_with_len a (k + 1))) ≡ joined (map g (range_with_len a k)) ++ g (a + k)
joined-more g a k = let e : k + 1 ≡ suc k = omega arith in ap (λ m. joined (map g (range_with_len a m))) e ∙ more a k
  where
    more : (a k : ℕ) → joined (map g (range_with_len a (suc k))) ≡ joined (map g (range_with_len a k)) ++ g (a + k)
    more a zero = let z : a + 0 ≡ a = omega arith in append-nil (g a) ∙ ap g (sym z)
    more a (suc k) =
        let z : (a + 1) + k ≡ a + suc k = omega arith in
        ap (λ xs. g a ++ xs) (more (a + 1) k ∙ ap (λ m. joined (map g (range_with_len (a + 1) k)) ++ g m) z)
        ∙ sym (append_assoc (g a) (joined (map g (range_with_len (a + 1) k))) (g (a + suc k)))

-- the step of the loop in `stage_list`: one segment more
pub list-more : (g : ℕ → List ℕ) (j : ℕ) (out new segment : List ℕ) → out ≡ joined (map g (range_with_len 0 j)) → new ≡ out ++ segment
    → segment ≡ g j → new ≡ joined (map g (range_with_len 0 (j + 1)))
list-more g j out new segment e h s =
    let z : 0 + j ≡ j = omega arith in
    h ∙ ap (λ xs. xs ++ segment) e ∙ ap (λ ys. joined (map g (range_with_len 0 j)) ++ ys) (s ∙ ap g (sym z)) ∙ sym (joined-more g 0 j)
