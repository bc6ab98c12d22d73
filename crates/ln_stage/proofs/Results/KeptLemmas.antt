-- What is kept of the lists of all orders: blocks by first sight, numbers of segments and lists, count and weight.
use Rattle.std.proofs.Common.{◌≡◌, ◌⊎◌, inl, inr, ℕ, zero, suc, ◌+◌, ◌-◌, ◌<◌, ◌≤◌, List, [], ◌∷◌, length, map, get_or}
use Rattle.std.proofs.Common.{take, ◌++◌, refl, sym, ◌∙◌, ap, arith}
use Rattle.std.specs.Prelude.{All, Contains, Some, slice_get}
use Rattle.std.proofs.lemmas.List.{append-nil, get_or-map, length-map, map-append}
use Rattle.std.proofs.lemmas.List.Elements.{All-cons, All-contains, All-from_recursion, All-map, All-nil, Contains-get_or}
use Rattle.std.proofs.lemmas.Option.{get_or_from_slice_get, slice_get-get_or, slice_get_within}
use Rattle.std.proofs.lemmas.Simd.{map-map}
use Rattle.std.specs.List.{AllByRecursion, range_with_len}
use Rattle.ln_algebra.specs.Orders.{Before, Rank}
use Rattle.ln_algebra.specs.Stage.{IsStageListBy}
use Rattle.ln_tree.specs.declared.shape.VarInfo.{VarInfo}
use Rattle.ln_tree.specs.Exps.{IsAbove, Pairs, vector}
use Rattle.ln_order.specs.Orders.{IsOrderOf, orders_of}
use Rattle.ln_order.specs.Prefixes.{IsPrefixOf, beside, joined, prefixes_of, segments_from}
use Rattle.ln_order.specs.Sites.{sites_of}
use Rattle.ln_order.proofs.Listing.OrdersLemmas.{member-is}
use Rattle.ln_order.proofs.Listing.PrefixLemmas.{beside_at, beside-all, front_number, joined-all, prefix-is}
use Rattle.ln_order.specs.Prefixes.{number_of_front}
use Rattle.ln_poly.specs.Sparse.{Sparse}
use Rattle.ln_stage.specs.FirstSight.{list_along, shared_count}
use Rattle.ln_stage.specs.Kept.{numbers_by, tallied_by}
use Rattle.ln_stage.specs.Lists.{AreStageListsIn, Passes, all_covering, all_seen_behind, first_seen, stage_count, stage_weight}
use Rattle.ln_stage.specs.StageList.{IsMonomialOf}
use Rattle.ln_stage.specs.Staged.{Staged, StopsListingIn, block_vector, count_numbers, lists_in, vectors_of}
use Rattle.ln_stage.specs.Tally.{IsOver as IsPast, IsStoppedBy, Tallied, pairs_of}
use Rattle.ln_stage.specs.Visit.{AreListed}
use Rattle.ln_stage.specs.declared.stop.StageStop.{StageStop}
use Rattle.ln_stage.specs.declared.stop.StageStop.TheVariants.{Zero, Stages, NoMemory}
use Rattle.ln_stage.proofs.Sights.FirstSightLemmas.{first-sight-by-prefixes, segments-are-fewer}
use Rattle.ln_stage.proofs.Sights.Members.{each-seen}
use Rattle.ln_stage.proofs.Results.FoldLemmas.{IsAllSeenBy, Sized, extends-refl, seen-by}
use Rattle.ln_stage.proofs.Walks.PairsLemmas.{above-pairs, vector-pairs_of}

-- ---- the list of an order from its segments
range-suc : {A : Type 0} (g : ℕ → A) (a m : ℕ) → map g (range_with_len (suc a) m) ≡ map (λ i. g (suc i)) (range_with_len a m)
range-suc g a zero = refl
range-suc g a (suc m) =
    let e : suc a + 1 ≡ suc (a + 1) = omega arith in
    ap (λ z. g (suc a) ∷ map g (range_with_len z m)) e ∙ ap (λ z. g (suc a) ∷ z) (range-suc g (a + 1) m)

along-from : (S : List ℕ → List (List ℕ)) (o : List ℕ) → list_along S o ≡ joined (map (λ i. S (take i o)) (range_with_len 0 (suc (length o))))
along-from S [] = sym (append-nil (S []))
along-from S (x ∷ o) = ap (λ z. S [] ++ z) (along-from (λ p. S (x ∷ p)) o ∙ ap joined (sym (range-suc (λ i. S (take i (x ∷ o))) 0 (suc (length o)))))

map-joined : {A B : Type 0} (g : A → B) (ls : List (List A)) → map g (joined ls) ≡ joined (map (map g) ls)
map-joined g [] = refl
map-joined g (l ∷ ls) = map-append g l (joined ls) ∙ ap (λ z. map g l ++ z) (map-joined g ls)

-- the same at each of the first places
range-same : (F G : ℕ → List (List ℕ)) (a n : ℕ) → ((i : ℕ) → a ≤ i → i < a + n → F i ≡ G i) → map F (range_with_len a n) ≡ map G (range_with_len a n)
range-same F G a zero h = refl
range-same F G a (suc n) h =
    let ih = range-same F G (a + 1) n (λ i l m. h i (omega (arith, l)) (omega (arith, m))) in
    ap (λ z. z ∷ map F (range_with_len (a + 1) n)) (h a (omega arith) (omega arith)) ∙ ap (λ z. G a ∷ z) ih

maps-agree : {A B : Type 0} (F G : A → B) (xs : List A) → ((x : A) → Contains xs x → F x ≡ G x) → map F xs ≡ map G xs
maps-agree F G [] h = refl
maps-agree F G (x ∷ xs) h =
    let ih = maps-agree F G xs (λ y c. h y (suc c.0, omega (arith, c.1), c.2)) in
    ap (λ z. z ∷ map F xs) (h x (0, omega arith, refl)) ∙ ap (λ z. G x ∷ z) ih

-- the numbers in all lists are as many as the stage count of the lists with a vector in place of each number
pub count-map : (g : ℕ → List ℕ) (ls : List (List ℕ)) → count_numbers ls ≡ stage_count (map (map g) ls)
count-map g [] = refl
count-map g (l ∷ ls) = omega (arith, count-map g ls, length-map l g)

-- ---- what is kept of lists that are along what is at prefixes
-- by an order of infinitesimals, L is the stage list of each order, and what S has at its prefixes, one after the other
pub record AreAlong (rank : Rank) (k : ℕ) (vars : List VarInfo) (f : Sparse) (L S : List ℕ → List (List ℕ)) : Type 0 where
  pub few : k ≤ 5
  pub lists : (o : List ℕ) → IsOrderOf k o
      → IsStageListBy (Before rank (sites_of vars o)) (length vars) (sites_of vars o) (IsMonomialOf (length vars) f) (L o)
  pub sized : (p : List ℕ) → IsPrefixOf k p → Sized (length vars) (S p)
  pub along : (o : List ℕ) → IsOrderOf k o → L o ≡ list_along S o

module _ {rank : Rank} {k : ℕ} {vars : List VarInfo} {f : Sparse} {L S : List ℕ → List (List ℕ)} (x : AreAlong rank k vars f L S) where
  -- the segments of all prefixes
  abbrev pub parts : List (List (List ℕ))
  parts = map S (prefixes_of k)

  sized-parts : (ps : List (List ℕ)) → ((p : List ℕ) → Contains ps p → Contains (prefixes_of k) p) → AllByRecursion (Sized (length vars)) (map S ps)
  sized-parts [] h = tt
  sized-parts (p ∷ ps) h = (x.sized p (prefix-is k p (h p (0, omega arith, refl))), sized-parts ps (λ u c. h u (suc c.0, omega (arith, c.1), c.2)))

  -- numbers and count, through the lists and through the segments
  same-first : first_seen (map L (orders_of k)) ≡ all_seen_behind [] (map S (prefixes_of k))
  same-first = ap first_seen (maps-agree L (list_along S) (orders_of k) (λ o c. x.along o (member-is k o c))) ∙ (first-sight-by-prefixes k S).0

  same-count : stage_count (map L (orders_of k)) ≡ shared_count k S (prefixes_of k)
  same-count = ap stage_count (maps-agree L (list_along S) (orders_of k) (λ o c. x.along o (member-is k o c))) ∙ (first-sight-by-prefixes k S).1

  list-from : (o : List ℕ) → IsOrderOf k o → L o ≡ joined (map (λ i. S (take i o)) (range_with_len 0 (suc (length o))))
  list-from o p = x.along o p ∙ along-from S o

  -- the lists of all orders
  abbrev pub found : List (List (List ℕ))
  found = map L (orders_of k)

  -- each of them is the stage list of its order
  pub found-lists : AreStageListsIn rank k vars f found
  found-lists = record {
    size = length-map (orders_of k) L;
    each = λ j h.
        let l : j < length (orders_of k) = omega (arith, h, length-map (orders_of k) L) in
        rw (get_or-map L (orders_of k) j [] [] l)
        (x.lists (get_or (orders_of k) j []) (member-is k (get_or (orders_of k) j []) (Contains-get_or (orders_of k) j [] l)));
  }

  module _ (most heavy : ℕ) where
    -- nothing yet
    abbrev pub start : Tallied
    start = record { exps = []; list = []; count = 0; weight = 0; most = most; heavy = heavy }

    -- what is kept at the end
    abbrev pub kept : Tallied
    kept = tallied_by S (length vars) f start (prefixes_of k)

    -- for each prefix, the numbers of the blocks in its segment
    abbrev pub segments : List (List ℕ)
    segments = numbers_by S (length vars) f start (prefixes_of k)

    seen : IsAllSeenBy S (length vars) f [] start (prefixes_of k)
    seen = seen-by S (length vars) f [] start (prefixes_of k) refl refl tt (sized-parts (prefixes_of k) (λ p c. c))

    -- where what is kept is over a limit, or the count of all lists is over its limit, the lists of all orders exceed a limit
    pub past-passes : IsPast kept ⊎ (most < shared_count k S (prefixes_of k)) → Passes (length vars) f most heavy found
    past-passes (inl (inl l)) = inl (omega (arith, l, seen.count, seen.most, segments-are-fewer k (S), same-count))
    past-passes (inl (inr l)) = inr (omega (arith, l, seen.weight, seen.heavy, ap (all_covering (length vars) f) same-first))
    past-passes (inr l) = inl (omega (arith, l, same-count))

    -- why listing stops
    pub stops : (stop : StageStop) → (f ≡ [] → ⊥) → IsStoppedBy stop (IsPast kept ⊎ (most < shared_count k S (prefixes_of k)))
        → StopsListingIn rank k vars f most heavy stop
    stops Zero n s = absurd s
    stops Stages n s = (n, (found, found-lists, past-passes s))
    stops (NoMemory m) n s = tt

    abbrev blocks : List (List ℕ)
    blocks = all_seen_behind [] parts

    blocks-sized : Sized (length vars) blocks
    blocks-sized = each-seen (λ a. length a ≡ length vars) [] parts tt (sized-parts (prefixes_of k) (λ p c. c))

    -- the vector of a block
    at-block : (cs : List (List ℕ)) (i : ℕ) → Sized (length vars) cs → i < length cs → block_vector (length vars) (map pairs_of cs) i ≡ get_or cs i []
    at-block cs i s h = ap (vector (length vars)) (get_or-map pairs_of cs i [] [] h)
        ∙ vector-pairs_of (length vars) (get_or cs i []) (All-from_recursion (λ a. length a ≡ length vars) cs s i [] h)

    at-blocks : (cs : List (List ℕ)) (l : List ℕ) → Sized (length vars) cs → All (λ i. i < length cs) l
        → map (block_vector (length vars) (map pairs_of cs)) l ≡ map (λ i. get_or cs i []) l
    at-blocks cs l s h = maps-agree (block_vector (length vars) (map pairs_of cs)) (λ i. get_or cs i []) l
        (λ i c. at-block cs i s (All-contains (λ i. i < length cs) l i h c))

    at-lists : (cs : List (List ℕ)) (ls : List (List ℕ)) → Sized (length vars) cs → All (λ l. All (λ i. i < length cs) l) ls
        → map (λ l. map (block_vector (length vars) (map pairs_of cs)) l) ls ≡ map (λ l. map (λ i. get_or cs i []) l) ls
    at-lists cs ls s h = maps-agree (map (block_vector (length vars) (map pairs_of cs))) (map (λ i. get_or cs i [])) ls
        (λ l c. at-blocks cs l s (All-contains (λ l. All (λ i. i < length cs) l) ls l h c))

    vectors-back : (cs : List (List ℕ)) → Sized (length vars) cs → map (vector (length vars)) (map pairs_of cs) ≡ cs
    vectors-back [] s = refl
    vectors-back (c ∷ cs) s = rw (vector-pairs_of (length vars) c s.0, vectors-back cs s.1) refl

    all-below : (cs : List (List ℕ)) → Sized (length vars) cs → All (λ e. IsAbove e (length vars)) (map pairs_of cs)
    all-below [] s = All-nil (λ e. IsAbove e (length vars))
    all-below (c ∷ cs) s = All-cons (λ e. IsAbove e (length vars)) (pairs_of c) (map pairs_of cs) (above-pairs c (length vars) s.0) (all-below cs s.1)

    numbers-within : All (λ l. All (λ i. i < length blocks) l) segments
    numbers-within = seen.within blocks (extends-refl blocks)

    vectors-parts : map (λ l. map (block_vector (length vars) kept.exps) l) segments ≡ parts
    vectors-parts =
        ap (λ es. map (λ l. map (block_vector (length vars) es) l) segments) seen.exps
        ∙ at-lists blocks segments blocks-sized numbers-within
        ∙ seen.lists blocks (extends-refl blocks)

    -- there is one segment for each prefix
    pub segments-size : length segments ≡ length (prefixes_of k)
    segments-size = sym (length-map segments (λ l. map (block_vector (length vars) kept.exps) l)) ∙ ap length vectors-parts ∙ length-map (prefixes_of k) (S)

    -- the vectors of a segment
    pub part-vectors : (o : List ℕ) (j : ℕ) → IsOrderOf k o → j ≤ k
        → map (block_vector (length vars) kept.exps) (beside (prefixes_of k) segments (take j o)) ≡ S (take j o)
    part-vectors o j p h =
        let g : slice_get (prefixes_of k) (number_of_front o j) ≡ Some (take j o) = front_number k o j x.few p h in
        let m : number_of_front o j < length (prefixes_of k) = slice_get_within (prefixes_of k) (number_of_front o j) (take j o) g in
        let l : number_of_front o j < length segments = omega (arith, m, segments-size) in
        let e : beside (prefixes_of k) segments (take j o) ≡ get_or segments (number_of_front o j) [] = beside_at k segments (take j o)
        (number_of_front o j) (get_or segments (number_of_front o j) []) x.few g (slice_get-get_or segments (number_of_front o j) [] l) in
        let at : get_or (prefixes_of k) (number_of_front o j) [] ≡ take j o = get_or_from_slice_get (prefixes_of k) (number_of_front o j) (take j o) [] g in
        ap (map (block_vector (length vars) kept.exps)) e
        ∙ sym (get_or-map (λ l. map (block_vector (length vars) kept.exps) l) segments (number_of_front o j) [] [] l)
        ∙ ap (λ z. get_or z (number_of_front o j) []) vectors-parts
        ∙ get_or-map S (prefixes_of k) (number_of_front o j) [] [] m
        ∙ ap S at

    -- the list of an order
    abbrev pub list_at : List ℕ → List ℕ
    list_at o = segments_from (beside (prefixes_of k) segments) o 0

    list-vectors : (o : List ℕ) → IsOrderOf k o → map (block_vector (length vars) kept.exps) (list_at o) ≡ L o
    list-vectors o p =
        let q : suc (length o) - 0 ≡ suc (length o) = omega arith in
        ap (λ n. map (block_vector (length vars) kept.exps) (joined (map (λ i. beside (prefixes_of k) segments (take i o)) (range_with_len 0 n)))) q
        ∙ map-joined (block_vector (length vars) kept.exps) (map (λ i. beside (prefixes_of k) segments (take i o)) (range_with_len 0 (suc (length o))))
        ∙ ap joined (map-map (map (block_vector (length vars) kept.exps)) (λ i. beside (prefixes_of k) segments (take i o)) (range_with_len 0 (suc (length o))))
        ∙ ap joined (range-same (λ i. map (block_vector (length vars) kept.exps) (beside (prefixes_of k) segments (take i o)))
        (λ i. S (take i o)) 0 (suc (length o)) (λ i l m. part-vectors o i p (omega (arith, m, p.size))))
        ∙ sym (list-from o p)

    -- what is kept at the end, as stages
    abbrev pub result : Staged
    result = record { sites = k; exps = kept.exps; segments = segments; lists = lists_in k segments }

    -- the result's lists, as lists of exponent vectors, are the lists of all orders
    pub result-vectors : vectors_of (length vars) result ≡ found
    result-vectors = map-map (map (block_vector (length vars) kept.exps)) list_at (orders_of k)
        ∙ maps-agree (λ o. map (block_vector (length vars) kept.exps) (list_at o)) L (orders_of k) (λ o c. list-vectors o (member-is k o c))

    -- each number in a segment is that of a block
    pub segments-within : All (λ l. All (λ i. i < length kept.exps) l) segments
    segments-within = rw (seen.exps, length-map blocks pairs_of) numbers-within

    -- the result's blocks are the distinct vectors of its lists, in order of first sight
    pub result-first : map (vector (length vars)) result.exps ≡ first_seen (vectors_of (length vars) result)
    result-first = rw (result-vectors, seen.exps) (vectors-back blocks blocks-sized ∙ sym same-first)

    -- no block has a variable past the last one
    pub result-below : All (λ e. IsAbove e (length vars)) result.exps
    result-below = rw seen.exps (all-below blocks blocks-sized)

    -- each number in a list of the result is that of a block
    pub result-numbers : All (λ l. All (λ i. i < length result.exps) l) result.lists
    result-numbers = All-map (λ l. All (λ i. i < length kept.exps) l) list_at (orders_of k)
        (λ j o l. joined-all (λ i. i < length kept.exps) (λ i. beside (prefixes_of k) segments (take i (get_or (orders_of k) j o)))
        (range_with_len 0 (suc (length (get_or (orders_of k) j o)) - 0))
        (λ i. beside-all (λ i. i < length kept.exps) (prefixes_of k) segments (take i (get_or (orders_of k) j o)) segments-within))

    -- all lists together have as many numbers as the segments have, each segment counted once for every order that it is in
    pub lists-count : count_numbers (lists_in k segments) ≡ shared_count k S (prefixes_of k)
    lists-count = count-map (block_vector (length vars) kept.exps) (map list_at (orders_of k)) ∙ ap stage_count result-vectors ∙ same-count

    -- ---- what the program has at its end
    module _ {segs : List (List ℕ)} {c : ℕ} {u : Tallied} (a : AreListed S k (length vars) f start most segs c u) where
      -- there is one segment for each prefix
      pub final-size : length segs ≡ length (prefixes_of k)
      final-size = ap length a.segments ∙ segments-size

      -- the count is how many numbers there are in all lists
      pub final-counted : c ≡ count_numbers (lists_in k segs)
      final-counted = a.count ∙ sym lists-count ∙ ap (λ z. count_numbers (lists_in k z)) (sym a.segments)

      -- the blocks, segments and lists are the result
      pub final-is : {st : Staged} {exps : List Pairs} → st ≡ record { sites = k; exps = exps; segments = segs; lists = lists_in k segs }
          → exps ≡ u.exps → st ≡ result
      final-is e i = let y = i ∙ ap (λ (z : Tallied). z.exps) a.tally in e ∙ rw (y, a.segments) refl

      -- the result's stage count is within its limit
      pub final-count : stage_count (vectors_of (length vars) result) ≤ most
      final-count = omega (arith, a.within, a.count, same-count, ap stage_count result-vectors)

      -- where the weight is within its limit, so is the result's stage weight
      pub final-weight : u.weight ≤ u.heavy → stage_weight (length vars) f (vectors_of (length vars) result) ≤ heavy
      final-weight h = omega (
        arith,
        h,
        ap (λ (z : Tallied). z.weight) a.tally,
        ap (λ (z : Tallied). z.heavy) a.tally,
        seen.weight,
        seen.heavy,
        ap (all_covering (length vars) f) same-first,
        ap (stage_weight (length vars) f) result-vectors,
      )
