-- Segments: one after the other they are the list, and each is that of its prefix.
use Rattle.std.proofs.Common.{◌≡◌, ◌≢◌, ◌⊎◌, inl, inr, ℕ, zero, suc, ◌+◌, ◌<◌, ◌≤◌, Bool, true, false, eqb, eq-eqb, cond, ◌&&◌, List, []}
use Rattle.std.proofs.Common.{◌∷◌, ◌++◌, length, map, get_or, take, refl, sym, ◌∙◌, ap, arith, add-one, Option, Some, None}
use Rattle.std.specs.Bool.{Decides}
use Rattle.std.specs.Prelude.{filter, min}
use Rattle.std.specs.List.{range_with_len}
use Rattle.std.proofs.lemmas.Bool.{and_parts, cases_eq, cases_lt, cases_order, eqb-true}
use Rattle.std.proofs.lemmas.Bool.Decides.{Decides-below_or, not_from_Decides}
use Rattle.std.proofs.lemmas.List.{get_or_past}
use Rattle.ln_algebra.specs.Vector.{In}
use Rattle.ln_algebra.specs.Earlier.{Earlier, IndicesDiffer, IsInOrder, IsOver, IsSortedIn, Of, RanksBefore, Sites}
use Rattle.ln_algebra.proofs.Ordering.Admissible.{earlier-admissible}
use Rattle.ln_algebra.proofs.Ordering.Order.{earlier-total}
use Rattle.ln_algebra.proofs.Ordering.Unique.{sorted-same}
use Rattle.ln_algebra.proofs.Walking.Walk.{In-append_left, In-append_right, In-append}
use Rattle.ln_tree.specs.declared.shape.VarInfo.{VarInfo}
use Rattle.ln_order.specs.Prefixes.{joined}
use Rattle.ln_order.specs.Sites.{place_in, sites_of}
use Rattle.ln_poly.specs.Sparse.{Sparse}
use Rattle.ln_stage.specs.StageList.{IsStageListOf, IsStageOf}
use Rattle.ln_stage.specs.Segments.{AreSegments, Ends, IndicesBelow, IsSegmentOf, ListHasItsSegments, NeedsBelow, SegmentIsOfThePrefix}
use Rattle.ln_stage.specs.Segments.{SegmentIsUnique, SegmentsMakeTheList, at_index, isnt_zero, part, reach, touches}

-- ---- members
-- one list in order after another
pub order-join : (R : List ℕ → List ℕ → Type 0) (xs ys : List (List ℕ)) → IsSortedIn R xs → IsSortedIn R ys
    → ((a b : List ℕ) → In xs a → In ys b → R a b) → IsSortedIn R (xs ++ ys)
order-join R [] ys s t h = t
order-join R (x ∷ xs) ys s t h =
    ((λ b i. elim (In-append xs ys b i) [ inl k ↦ s.0 b k | inr k ↦ h x b (inl refl) k ]), order-join R xs ys s.1 t (λ a b i j. h a b (inr i) j))

-- ---- where a vector ends
-- it ends at one place
pub ends-order : (sites : Sites) (i j : ℕ) (a : List ℕ) → Ends sites i a → Ends sites j a → j < i → ⊥
ends-order sites zero j a e f l = omega arith
ends-order sites (suc m) j a e f l =
    let r = e.last m refl in
    r.4 (f.below r.0 r.1 r.2 (omega (arith, l, r.3)))

-- what is earlier than what needs no site but these needs no other either
earlier-within : (sites : Sites) (j : ℕ) (a b : List ℕ) → NeedsBelow sites j b → Earlier sites a b → NeedsBelow sites j a
earlier-within sites j a b h (v, s, o, l, same) w t q far = by_place (cases_lt (sites.index s) j) where
  by_place : (sites.index s < j) ⊎ (j ≤ sites.index s) → get_or a w 0 ≡ 0
  by_place (inl near) = same w (s, t, o, q, inl (omega (arith, near, far))) ∙ h w t q far
  by_place (inr past) = absurd (omega (arith, l, h v s o past))

-- so what ends later is later
later-ends : (sites : Sites) (i j : ℕ) (a b : List ℕ) → Ends sites i a → Ends sites j b → i < j → Earlier sites b a → ⊥
later-ends sites i zero a b e f l h = omega arith
later-ends sites i (suc m) a b e f l h =
    let r = f.last m refl in
    r.4 (earlier-within sites i b a e.below h r.0 r.1 r.2 (omega (arith, l, r.3)))

ends-earlier : (n : ℕ) (sites : Sites) (i j : ℕ) (a b : List ℕ) → IndicesDiffer sites → IsOver n sites a → IsOver n sites b → Ends sites i a
    → Ends sites j b → i < j → Earlier sites a b
ends-earlier n sites i j a b d over_a over_b e f l = go (earlier-total sites d n a b over_a over_b) where
  go : (a ≡ b) ⊎ (Earlier sites a b ⊎ Earlier sites b a) → Earlier sites a b
  go (inl q) = absurd (ends-order sites j i b f (rw q at e) l)
  go (inr (inl h)) = h
  go (inr (inr h)) = absurd (later-ends sites i j a b e f l h)

-- ---- where, by a test
-- variable v has an exponent that isn't 0, and belongs to the site with index i
abbrev Touched : Sites → List ℕ → ℕ → ℕ → Type 0
Touched sites a i v = (s : ℕ) × Of sites v s × (sites.index s ≡ i) × (get_or a v 0 ≢ 0)

touched-is : (sites : Sites) (a : List ℕ) (i v : ℕ) → Decides (at_index sites (sites.site v) i && isnt_zero (get_or a v 0)) (Touched sites a i v)
touched-is sites a i v = by_site (sites.site v) refl (get_or a v 0) refl where
  by_site : (o : Option ℕ) → sites.site v ≡ o → (e : ℕ) → get_or a v 0 ≡ e
      → Decides (at_index sites o i && isnt_zero e) ((s : ℕ) × Of sites v s × (sites.index s ≡ i) × (get_or a v 0 ≢ 0))
  by_site None q e z = ((λ h. cc), (λ t. absurd (let w : None ≡ Some t.0 = sym q ∙ t.1 in cc)))
  by_site (Some s) q zero z = ((λ h. absurd (let w : false ≡ true = (and_parts (eqb (sites.index s) i) false h).1 in cc)), (λ t. absurd (t.3 z)))
  by_site (Some s) q (suc e) z = (
    (λ h. (s, q, eqb-true (sites.index s) i (and_parts (eqb (sites.index s) i) true h).0, λ y. omega (arith, y, z))),
    (λ t. let w : Some t.0 ≡ Some s = sym t.1 ∙ q in let y : t.0 ≡ s = cc in rw (eq-eqb (sites.index s) i (ap (λ x. sites.index x) (sym y) ∙ t.2)) refl),
  )

touches-is : (sites : Sites) (a : List ℕ) (n i : ℕ) → Decides (touches sites a n i) ((v : ℕ) × (v < n) × Touched sites a i v)
touches-is sites a n i = Decides-below_or (λ v. at_index sites (sites.site v) i && isnt_zero (get_or a v 0)) (Touched sites a i) (λ n. touches sites a n i)
    (touched-is sites a i) refl (λ n. refl) n

reach-ends : (sites : Sites) (n : ℕ) (a : List ℕ) (k : ℕ) → length a ≡ n → NeedsBelow sites k a → Ends sites (reach sites n k a) a
reach-ends sites n a zero size h = record { below = h; last = λ i e. absurd (omega (arith, e)) }
reach-ends sites n a (suc i) size h = go (touches sites a n i) refl (reach-ends sites n a i size) where
  go : (b : Bool) → touches sites a n i ≡ b → (NeedsBelow sites i a → Ends sites (reach sites n i a) a) → Ends sites (cond b (suc i) (reach sites n i a)) a
  go true e ih = record { below = h; last = λ m q. (let r = (touches-is sites a n i).0 e in (r.0, r.2.0, r.2.1, omega (arith, q, r.2.2), r.2.3)) }
  go false e ih = ih (λ v s o l. at_place v s o l (cases_eq (sites.index s) i)) where
    at_place : (v s : ℕ) → Of sites v s → i ≤ sites.index s → (sites.index s ≡ i) ⊎ (sites.index s ≡ i → ⊥) → get_or a v 0 ≡ 0
    at_place v s o l (inl q) = inside (cases_lt v n) where
      not-touched : v < n → (z : ℕ) → get_or a v 0 ≡ z → get_or a v 0 ≡ 0
      not-touched m zero w = w
      not-touched m (suc z) w = absurd (not_from_Decides _ (touches-is sites a n i) e (v, m, (s, o, q, λ y. omega (arith, y, w))))

      inside : (v < n) ⊎ (n ≤ v) → get_or a v 0 ≡ 0
      inside (inl m) = not-touched m (get_or a v 0) refl
      inside (inr m) = get_or_past a v 0 (omega (arith, m, size))
    at_place v s o l (inr ne) = h v s o (omega (arith, l, ne))

reach-small : (sites : Sites) (n k : ℕ) (a : List ℕ) → reach sites n k a ≤ k
reach-small sites n zero a = omega arith
reach-small sites n (suc i) a = go (touches sites a n i) (reach-small sites n i a) where
  go : (b : Bool) → reach sites n i a ≤ i → cond b (suc i) (reach sites n i a) ≤ suc i
  go true h = omega arith
  go false h = omega (arith, h)

all-below : (sites : Sites) (k : ℕ) (a : List ℕ) → IndicesBelow sites k → NeedsBelow sites k a
all-below sites k a h v s o l = absurd (omega (arith, l, h v s o))

-- ---- one segment after the other
module _ (n : ℕ) (sites : Sites) (f : Sparse) (d : IndicesDiffer sites) where
  joined-are : (j : ℕ) (lists : List (List (List ℕ))) (a : List ℕ) → AreSegments n sites f j lists → In (joined lists) a
      → (i : ℕ) × (j ≤ i) × IsStageOf n sites f a × Ends sites i a
  joined-are j [] a h i = absurd i
  joined-are j (list ∷ lists) a h i = go (In-append list (joined lists) a i) (joined-are (suc j) lists a h.1) where
    go : In list a ⊎ In (joined lists) a → (In (joined lists) a → (i : ℕ) × (suc j ≤ i) × IsStageOf n sites f a × Ends sites i a)
        → (i : ℕ) × (j ≤ i) × IsStageOf n sites f a × Ends sites i a
    go (inl m) ih = let r = h.0.stages a m in (j, omega arith, r.0, r.1)
    go (inr m) ih = let r = ih m in (r.0, omega (arith, r.1), r.2, r.3)

  in-joined : (j : ℕ) (lists : List (List (List ℕ))) (a : List ℕ) (i : ℕ) → AreSegments n sites f j lists → IsStageOf n sites f a
      → Ends sites i a → j ≤ i → i < j + length lists → In (joined lists) a
  in-joined j [] a i h s e l m = absurd (omega arith)
  in-joined j (list ∷ lists) a i h s e l m = go (cases_eq i j) (in-joined (suc j) lists a i h.1 s e) where
    go : (i ≡ j) ⊎ (i ≡ j → ⊥) → (suc j ≤ i → i < suc j + length lists → In (joined lists) a) → In (list ++ joined lists) a
    go (inl q) ih = In-append_left list (joined lists) a (h.0.all a s (rw q at e))
    go (inr ne) ih = In-append_right list (joined lists) a (ih (omega (arith, l, ne)) (omega (arith, m)))

  joined-order : (j : ℕ) (lists : List (List (List ℕ))) → AreSegments n sites f j lists → IsInOrder sites (joined lists)
  joined-order j [] h = tt
  joined-order j (list ∷ lists) h =
      order-join (Earlier sites) list (joined lists) h.0.in_order (joined-order (suc j) lists h.1)
      (λ a b i k.
      let p = h.0.stages a i in
      let q = joined-are (suc j) lists b h.1 k in
      ends-earlier n sites j q.0 a b d p.0.over q.2.over p.1 q.3 (omega (arith, q.1)))

  makes-list : (k : ℕ) (lists : List (List (List ℕ))) → IndicesBelow sites k → length lists ≡ suc k → AreSegments n sites f 0 lists
      → IsStageListOf n sites f (joined lists)
  makes-list k lists b size h = record {
    stages = λ a i. (joined-are 0 lists a h i).2;
    all = λ a s. in-joined 0 lists a (reach sites n k a) h s (reach-ends sites n a k s.over.size (all-below sites k a b)) (omega arith)
        (omega (arith, reach-small sites n k a, size));
    in_order = joined-order 0 lists h;
  }

  -- ---- the parts of a list
  part-in : (test : List ℕ → Bool) (list : List (List ℕ)) (a : List ℕ) → In list a → test a ≡ true → In (filter test list) a
  part-in test [] a i t = absurd i
  part-in test (x ∷ list) a i t = go (test x) refl i (part-in test list a) where
    go : (b : Bool) → test x ≡ b → (a ≡ x) ⊎ In list a → (In list a → test a ≡ true → In (filter test list) a)
        → In (cond b (x ∷ filter test list) (filter test list)) a
    go true e (inl q) ih = inl q
    go true e (inr m) ih = inr (ih m t)
    go false e (inl q) ih = absurd (let r : true ≡ false = sym t ∙ ap test q ∙ e in cc)
    go false e (inr m) ih = ih m t

  in-part : (test : List ℕ → Bool) (list : List (List ℕ)) (a : List ℕ) → In (filter test list) a → In list a × (test a ≡ true)
  in-part test [] a i = absurd i
  in-part test (x ∷ list) a i = go (test x) refl i (in-part test list a) where
    go : (b : Bool) → test x ≡ b → In (cond b (x ∷ filter test list) (filter test list)) a
        → (In (filter test list) a → In list a × (test a ≡ true)) → In (x ∷ list) a × (test a ≡ true)
    go true e (inl q) ih = (inl q, ap test q ∙ e)
    go true e (inr m) ih = let r = ih m in (inr r.0, r.1)
    go false e m ih = let r = ih m in (inr r.0, r.1)

  part-order : (test : List ℕ → Bool) (list : List (List ℕ)) → IsInOrder sites list → IsInOrder sites (filter test list)
  part-order test [] h = tt
  part-order test (x ∷ list) h = go (test x) (part-order test list h.1) where
    go : (b : Bool) → IsInOrder sites (filter test list) → IsInOrder sites (cond b (x ∷ filter test list) (filter test list))
    go true ih = ((λ b i. h.0 b (in-part test list b i).0), ih)
    go false ih = ih

  module _ (k : ℕ) (list : List (List ℕ)) (b : IndicesBelow sites k) (l : IsStageListOf n sites f list) where
    ends-at : (a : List ℕ) → IsStageOf n sites f a → Ends sites (reach sites n k a) a
    ends-at a s = reach-ends sites n a k s.over.size (all-below sites k a b)

    one-end : (a : List ℕ) (i j : ℕ) → Ends sites i a → Ends sites j a → i ≡ j
    one-end a i j e g = go (cases_order i j) where
      go : (i ≡ j) ⊎ ((i < j) ⊎ (j < i)) → i ≡ j
      go (inl q) = q
      go (inr (inl m)) = absurd (ends-order sites j i a g e m)
      go (inr (inr m)) = absurd (ends-order sites i j a e g m)

    part-segment : (j : ℕ) → IsSegmentOf n sites f j (part sites n k list j)
    part-segment j = record {
      stages = λ a i.
          let p = in-part (λ u. eqb (reach sites n k u) j) list a i in
          let s = l.stages a p.0 in
          let q : reach sites n k a ≡ j = eqb-true (reach sites n k a) j p.1 in
          (s, rw q at (ends-at a s));
      all =
          λ a s e. part-in (λ u. eqb (reach sites n k u) j) list a (l.all a s) (eq-eqb (reach sites n k a) j (one-end a (reach sites n k a) j (ends-at a s) e));
      in_order = part-order (λ u. eqb (reach sites n k u) j) list l.in_order;
    }

    parts-from : (m j : ℕ) → AreSegments n sites f j (map (part sites n k list) (range_with_len j m))
    parts-from zero j = tt
    parts-from (suc m) j =
        let q : AreSegments n sites f (suc j) (map (part sites n k list) (range_with_len (j + 1) m)) = rw add-one (parts-from m (suc j)) in
        (part-segment j, q)

    parts-length : (m j : ℕ) → length (map (part sites n k list) (range_with_len j m)) ≡ m
    parts-length zero j = refl
    parts-length (suc m) j =
        let q : length (map (part sites n k list) (range_with_len (j + 1) m)) ≡ m = rw add-one (parts-length m (suc j)) in
        ap suc q

    has-segments : AreSegments n sites f 0 (map (part sites n k list) (range_with_len 0 (suc k)))
        × (joined (map (part sites n k list) (range_with_len 0 (suc k))) ≡ list)
    has-segments =
        let w = makes-list k (map (part sites n k list) (range_with_len 0 (suc k))) b (parts-length (suc k) 0) (parts-from (suc k) 0) in (
          parts-from (suc k) 0,
          sorted-same n sites (Earlier sites) (earlier-admissible n sites d) (joined (map (part sites n k list) (range_with_len 0 (suc k))))
              list w.in_order l.in_order (λ a i. l.all a (w.stages a i)) (λ a i. w.all a (l.stages a i)),
        )

-- the segments of all prefixes of an order, one after the other, are its stage list
pub segments-make-the-list : SegmentsMakeTheList
segments-make-the-list n k sites f lists d b size h = makes-list n sites f d k lists b size h

-- the parts of a stage list by last site are its segments, and one after the other they are the list
pub list-has-its-segments : ListHasItsSegments
list-has-its-segments n k sites f list d b l = has-segments n sites f d k list b l

-- there is at most one segment that ends with the j-th site
pub segment-is-unique : SegmentIsUnique
segment-is-unique n j sites f xs ys d s t =
    sorted-same n sites (Earlier sites) (earlier-admissible n sites d) xs ys s.in_order t.in_order
    (λ a i. (let r = s.stages a i in t.all a r.0 r.1)) (λ a i. (let r = t.stages a i in s.all a r.0 r.1))

-- ---- two orders with the same first places
record Agree (j : ℕ) (s t : Sites) : Type 0 where
  same_site : (v : ℕ) → s.site v ≡ t.site v
  same_index : (x : ℕ) → min (s.index x) j ≡ min (t.index x) j

agree-back : (j : ℕ) (s t : Sites) → Agree j s t → Agree j t s
agree-back j s t g = record { same_site = λ v. sym (g.same_site v); same_index = λ x. sym (g.same_index x) }

module _ (n j : ℕ) (s t : Sites) (g : Agree j s t) where
  of-there : (v x : ℕ) → Of t v x → Of s v x
  of-there v x o = g.same_site v ∙ o

  of-here : (v x : ℕ) → Of s v x → Of t v x
  of-here v x o = sym (g.same_site v) ∙ o

  below-there : (a : List ℕ) → NeedsBelow s j a → NeedsBelow t j a
  below-there a h v x o l = h v x (of-there v x o) (omega (arith, g.same_index x, l))

  ends-there : (a : List ℕ) → Ends s j a → Ends t j a
  ends-there a e = record {
    below = below-there a e.below;
    last = λ i q. (let r = e.last i q in (r.0, r.1, of-here r.0 r.1 r.2, omega (arith, g.same_index r.1, r.3, q), r.4));
  }

  earlier-there : (a b : List ℕ) → NeedsBelow s j a → NeedsBelow s j b → Earlier s a b → Earlier t a b
  earlier-there a b within_a within_b (v, x, o, l, same) = (v, x, of-here v x o, l, λ w r. here w r (cases_lt (s.index x) j)) where
    here : (w : ℕ) → RanksBefore t v w → (s.index x < j) ⊎ (j ≤ s.index x) → get_or a w 0 ≡ get_or b w 0
    here w (x', y, o', q, rank) (inr past) = absurd (omega (arith, l, within_b v x o past))
    here w (x', y, o', q, rank) (inl close) = at (cases_lt (s.index y) j) rank where
      one : x' ≡ x
      one = let e : Some x' ≡ Some x = sym (of-there v x' o') ∙ o in cc

      at : (s.index y < j) ⊎ (j ≤ s.index y) → (t.index x' < t.index y) ⊎ ((x' ≡ y) × (w < v)) → get_or a w 0 ≡ get_or b w 0
      at (inr past) k = within_a w y (of-there w y q) past ∙ sym (within_b w y (of-there w y q) past)
      at (inl m) (inl less) = same w (x, y, o, of-there w y q, inl (omega (arith, less, g.same_index x, close, g.same_index y, m, ap (λ z. t.index z) one)))
      at (inl m) (inr k) = same w (x, y, o, of-there w y q, inr (sym one ∙ k.0, k.1))

  over-there : (a : List ℕ) → IsOver n s a → IsOver n t a
  over-there a h = record { size = h.size; of_sites = λ v e. h.of_sites v (g.same_site v ∙ e) }

module _ (n j : ℕ) (s t : Sites) (g : Agree j s t) (f : Sparse) where
  stage-there : (a : List ℕ) → NeedsBelow s j a → IsStageOf n s f a → IsStageOf n t f a
  stage-there a h st = record {
    over = over-there n j s t g a st.over;
    covered = st.covered;
    before_cut = λ b over last earlier.
        let w : NeedsBelow t j b = earlier-within t j b a (below-there n j s t g a h) earlier in
        st.before_cut b (over-there n j t s (agree-back j s t g) b over) last
        (earlier-there n j t s (agree-back j s t g) b a w (below-there n j s t g a h) earlier);
  }

  order-there : (list : List (List ℕ)) → ((a : List ℕ) → In list a → NeedsBelow s j a) → IsInOrder s list → IsInOrder t list
  order-there [] w h = tt
  order-there (x ∷ list) w h = ((λ b i. earlier-there n j s t g x b (w x (inl refl)) (w b (inr i)) (h.0 b i)), order-there list (λ a i. w a (inr i)) h.1)

segment-there : (n j : ℕ) (s t : Sites) (f : Sparse) (list : List (List ℕ)) → Agree j s t → IsSegmentOf n s f j list → IsSegmentOf n t f j list
segment-there n j s t f list g h = record {
  stages = λ a i. (let r = h.stages a i in (stage-there n j s t g f a r.1.below r.0, ends-there n j s t g a r.1));
  all = λ a st e. h.all a (stage-there n j t s (agree-back j s t g) f a e.below st) (ends-there n j t s (agree-back j s t g) a e);
  in_order = order-there n j s t g f list (λ a i. (h.stages a i).1.below) h.in_order;
}

-- the place of a site among the first j places
front-place : (j : ℕ) (o : List ℕ) (s : ℕ) → place_in (take j o) s ≡ min (place_in o s) j
front-place zero o s = omega arith
front-place (suc j) [] s = omega arith
front-place (suc j) (x ∷ o) s = go (eqb x s) (front-place j o s) where
  go : (b : Bool) → place_in (take j o) s ≡ min (place_in o s) j → cond b 0 (suc (place_in (take j o) s)) ≡ min (cond b 0 (suc (place_in o s))) (suc j)
  go true ih = omega arith
  go false ih = omega (arith, ih)

fronts-agree : (j : ℕ) (vars : List VarInfo) (o u : List ℕ) → take j o ≡ take j u → Agree j (sites_of vars o) (sites_of vars u)
fronts-agree j vars o u e =
    record { same_site = λ v. refl; same_index = λ x. sym (front-place j o x) ∙ ap (λ z. place_in z x) e ∙ front-place j u x }

-- two orders with the same first j sites have the same j-th segment
pub segment-is-of-the-prefix : SegmentIsOfThePrefix
segment-is-of-the-prefix n j vars f o u list e h = segment-there n j (sites_of vars o) (sites_of vars u) f list (fronts-agree j vars o u e) h
