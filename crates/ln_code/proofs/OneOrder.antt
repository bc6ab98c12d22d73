-- Proves that the program of one order is a program, and that it decides rows whose indices rise.
use Rattle.std.proofs.Common.{◌≡◌, ◌≢◌, ℕ, zero, suc, ◌+◌, ◌-◌, ◌<◌, ◌≤◌, refl, sym, ◌∙◌, ap, subst, arith, List, [], ◌∷◌, ◌++◌, length, map, take}
use Rattle.std.proofs.Common.{get_or, append-nil, append_assoc, Option, Some, None, Ok, Err, ℤ, true, false, if◌then◌else◌}
use Rattle.std.specs.Prelude.{All, AllPairs, IfOk, Result, slice_get}
use Rattle.std.specs.List.{range_with_len}
use Rattle.std.proofs.lemmas.List.Elements.{All-take}
use Rattle.std.proofs.lemmas.List.FromFn.{get_or-range_with_len, length-range_with_len}
use Rattle.std.proofs.lemmas.List.{length-map}
use Rattle.ln_algebra.specs.Vector.{same_vector}
use Rattle.ln_order.specs.Orders.{IsOrderOf}
use Rattle.ln_order.specs.Prefixes.{beside, joined, prefixes_of}
use Rattle.ln_code.specs.Engine.{next}
use Rattle.ln_code.specs.Kept.{AreOfSites, FollowsRules, IsList, IsProgram}
use Rattle.ln_code.specs.Lists.{list_from, list_of, segment_of}
use Rattle.ln_code.specs.Part.{Code, Part, block_value, ops_in_blocks, wide_in, without_filter}
use Rattle.ln_code.specs.Verdict.{along, settled}
use Rattle.ln_code.proofs.Verdicts.Prefixed.{list_ends, list_goes}
use Rattle.ln_code.specs.OneOrder.{DecidesRising, OneOrderDecides, OneOrderIsProgram, at_once, in_one_order, list_in_turn, past_all}

-- ---- segments
-- nothing at each prefix
beside-none : (qs : List (List ℕ)) (ss : List (List ℕ)) (p : List ℕ) → beside qs (map (λ _. []) ss) p ≡ []
beside-none [] ss p = refl
beside-none (q ∷ qs) [] p = refl
beside-none (q ∷ qs) (s ∷ ss) p = elim (same_vector q p) as (λ b. (if b then [] else beside qs (map (λ _. []) ss) p) ≡ []) [
  | true ↦ refl
  | false ↦ beside-none qs ss p
]

-- the empty prefix comes first
beside-first : (k : ℕ) (list : List ℕ) (ss : List (List ℕ)) → length ss ≡ length (prefixes_of k) → beside (prefixes_of k) (at_once list ss) [] ≡ list
beside-first zero list [] e = absurd (omega (arith, e))
beside-first zero list (s ∷ ss) e = refl
beside-first (suc k) list [] e = absurd (omega (arith, e))
beside-first (suc k) list (s ∷ ss) e = refl

-- the others have nothing
beside-other : (k : ℕ) (list : List ℕ) (ss : List (List ℕ)) (x : ℕ) (xs : List ℕ) → beside (prefixes_of k) (at_once list ss) (x ∷ xs) ≡ []
beside-other zero list [] x xs = refl
beside-other zero list (s ∷ ss) x xs = refl
beside-other (suc k) list [] x xs = refl
beside-other (suc k) list (s ∷ ss) x xs = beside-none _ ss (x ∷ xs)

-- so longer fronts of an order have nothing
module _ (k : ℕ) (list : List ℕ) (ss : List (List ℕ)) where
  abbrev seg : List ℕ → List ℕ
  seg p = beside (prefixes_of k) (at_once list ss) p

  front-none : (places : List ℕ) (i : ℕ) → 0 < i → i ≤ length places → seg (take i places) ≡ []
  front-none [] i l h = absurd (omega (arith, l, h))
  front-none (x ∷ xs) zero l h = absurd (omega (arith, l))
  front-none (x ∷ xs) (suc i) l h = beside-other k list ss x (take i xs)

  fronts-none : (places : List ℕ) (a n : ℕ) → 0 < a → a + n ≤ suc (length places)
      → joined (map (λ i. seg (take i places)) (range_with_len a n)) ≡ []
  fronts-none places a zero l h = refl
  fronts-none places a (suc n) l h =
      ap (λ z. z ++ joined (map (λ i. seg (take i places)) (range_with_len (a + 1) n))) (front-none places a l (omega (arith, h)))
      ∙ fronts-none places (a + 1) n (omega arith) (omega (arith, h))

  all-fronts : (places : List ℕ) → length ss ≡ length (prefixes_of k)
      → joined (map (λ i. seg (take i places)) (range_with_len 0 (suc (length places)))) ≡ list
  all-fronts places e =
      ap (λ z. z ++ joined (map (λ i. seg (take i places)) (range_with_len 1 (length places)))) (beside-first k list ss e)
      ∙ ap (λ z. list ++ z) (fronts-none places 1 (length places) (omega arith) (omega arith))
      ∙ append-nil list

-- the list of each order
one-list : (p : Part) → IsProgram p → (places : List ℕ) → list_of (in_one_order p) places ≡ list_in_turn p
one-list p h places =
    let q : suc (length places) - 0 ≡ suc (length places) = omega arith in
    ap (λ m. joined (map (λ i. seg p.shape.sites (list_in_turn p) p.segments (take i places)) (range_with_len 0 m))) q
    ∙ all-fronts p.shape.sites (list_in_turn p) p.segments places h.prefixes

-- ---- the order of the arguments
in-turn : (k : ℕ) → IsOrderOf k (range_with_len 0 k)
in-turn k = record { size = length-range_with_len 0 k; each = record { within = within; differ = differ } } where
  within : All (λ j. j < length (range_with_len 0 k)) (range_with_len 0 k)
  within i d l =
      let m : i < k = omega (arith, l, length-range_with_len 0 k) in
      omega (arith, get_or-range_with_len 0 k i d m, length-range_with_len 0 k)

  differ : AllPairs (λ i j. i ≢ j) (range_with_len 0 k)
  differ i j d l m q =
      let n : j < k = omega (arith, m, length-range_with_len 0 k) in
      omega (arith, l, q, get_or-range_with_len 0 k i d (omega (arith, l, n)), get_or-range_with_len 0 k j d n)

-- ---- blocks
-- each number is below the bound
below-past : (ns : List ℕ) → All (λ n. n < past_all ns) ns
below-past [] k d l = absurd (omega (arith, l))
below-past (n ∷ ns) zero d l = omega arith
below-past (n ∷ ns) (suc k) d l = omega (arith, below-past ns k d (omega (arith, l)))

-- which is within what all are below
past-within : (m : ℕ) (ns : List ℕ) → All (λ n. n < m) ns → past_all ns ≤ m
past-within m [] h = omega arith
past-within m (n ∷ ns) h = omega (arith, h 0 0 (omega arith), past-within m ns (λ k d l. h (suc k) d (omega (arith, l))))

-- the first t blocks
length-first : {X : Type 0} (t : ℕ) (xs : List X) → t ≤ length xs → length (take t xs) ≡ t
length-first zero xs h = refl
length-first (suc t) [] h = absurd (omega (arith, h))
length-first (suc t) (x ∷ xs) h = ap suc (length-first t xs (omega (arith, h)))

get-first : {X : Type 0} (t n : ℕ) (xs : List X) → n < t → slice_get (take t xs) n ≡ slice_get xs n
get-first zero n xs h = absurd (omega (arith, h))
get-first (suc t) n [] h = refl
get-first (suc t) zero (x ∷ xs) h = refl
get-first (suc t) (suc n) (x ∷ xs) h = get-first t n xs (omega (arith, h))

few-first : (t : ℕ) (cs : List Code) → ops_in_blocks (take t cs) ≤ ops_in_blocks cs
few-first zero cs = omega arith
few-first (suc t) [] = omega arith
few-first (suc t) (c ∷ cs) = omega (arith, few-first t cs)

-- ---- a program
turn-list : (p : Part) → IsProgram p → IsList (length p.blocks) (list_in_turn p)
turn-list p h = h.lists (range_with_len 0 p.shape.sites) (in-turn p.shape.sites)

length-once : (list : List ℕ) (ss : List (List ℕ)) → length (at_once list ss) ≡ length ss
length-once list [] = refl
length-once list (s ∷ ss) = ap suc (length-map ss (λ _. []))

named-once : (m : ℕ) (list : List ℕ) (ss : List (List ℕ)) → All (λ n. n < m) list → All (λ s. All (λ n. n < m) s) (at_once list ss)
named-once m list [] h k d l = absurd (omega (arith, l))
named-once m list (s ∷ ss) h zero d l = h
named-once m list (s ∷ ss) h (suc k) d l = nothing ss k d (omega (arith, l)) where
  none : List ℕ → List ℕ
  none s = []

  nothing : (ss : List (List ℕ)) (k : ℕ) (d : List ℕ) → k < length (map none ss) → All (λ n. n < m) (get_or (map none ss) k d)
  nothing [] k d l = absurd (omega (arith, l))
  nothing (s ∷ ss) zero d l = λ i e q. absurd (omega (arith, q))
  nothing (s ∷ ss) (suc k) d l = nothing ss k d (omega (arith, l))

-- The program of one order keeps all that a program keeps.
pub one-order-is-program : OneOrderIsProgram
one-order-is-program p h =
    let L : List ℕ = list_in_turn p in
    let t : ℕ = past_all L in
    let is : IsList (length p.blocks) L = turn-list p h in
    let size : length (take t p.blocks) ≡ t = length-first t p.blocks (past-within (length p.blocks) L is.within) in
    let below : All (λ n. n < length (take t p.blocks)) L = subst (λ m. All (λ n. n < m) L) (sym size) (below-past L) in
    record {
      blocks = All-take (FollowsRules p.shape.vars) t p.blocks h.blocks;
      filter = tt;
      few = omega (arith, h.few, few-first t p.blocks);
      of_sites = All-take (λ c. AreOfSites p.shape.vars c.exps) t p.blocks h.of_sites;
      prefixes = length-once L p.segments ∙ h.prefixes;
      named = named-once (length (take t p.blocks)) L p.segments below;
      lists = λ o k. subst (IsList (length (take t p.blocks))) (sym (one-list p h o)) (record { within = below; once = is.once; filled = is.filled });
    }

-- ---- the verdict
-- what the list names is in the first t blocks
along-first : (zs : List ℤ) (t : ℕ) (cs : List Code) (ns : List ℕ) (place wide calls : ℕ) → All (λ n. n < t) ns
    → along zs (take t cs) ns place wide calls ≡ along zs cs ns place wide calls
along-first zs t cs [] place wide calls h = refl
along-first zs t cs (n ∷ ns) place wide calls h =
    rw (get-first t n cs (h 0 0 (omega arith))) (by_block (slice_get cs n) (λ w. along-first zs t cs ns (place + 1) w (calls + 1)
    (λ k d l. h (suc k) d (omega (arith, l))))) where
      by_value : (c : Code) (o : Option ℤ) → ((w : ℕ) → along zs (take t cs) ns (place + 1) w (calls + 1) ≡ along zs cs ns (place + 1) w (calls + 1))
          → next o (λ z. settled z place (wide + wide_in c.ops) (calls + 1) (along zs (take t cs) ns (place + 1) (wide + wide_in c.ops) (calls + 1)))
          ≡ next o (λ z. settled z place (wide + wide_in c.ops) (calls + 1) (along zs cs ns (place + 1) (wide + wide_in c.ops) (calls + 1)))
      by_value c None ih = refl
      by_value c (Some z) ih = ap (λ r. settled z place (wide + wide_in c.ops) (calls + 1) r) (ih (wide + wide_in c.ops))

      by_block : (o : Option Code) → ((w : ℕ) → along zs (take t cs) ns (place + 1) w (calls + 1) ≡ along zs cs ns (place + 1) w (calls + 1))
          → next o (λ c. next (block_value zs c)
          (λ z. settled z place (wide + wide_in c.ops) (calls + 1) (along zs (take t cs) ns (place + 1) (wide + wide_in c.ops) (calls + 1))))
          ≡ next o (λ c. next (block_value zs c)
          (λ z. settled z place (wide + wide_in c.ops) (calls + 1) (along zs cs ns (place + 1) (wide + wide_in c.ops) (calls + 1))))
      by_block None ih = refl
      by_block (Some c) ih = by_value c (block_value zs c) ih

-- On a row whose indices rise, the program of one order has the verdict of the whole program without its filter.
pub one-order-decides : OneOrderDecides
one-order-decides p h row v rises d =
    let L : List ℕ = list_in_turn p in
    let t : ℕ = past_all L in
    let e : d.list ≡ L = d.chosen.list_is ∙ one-list p h d.places in
    let here : along row.values (take t p.blocks) L 0 0 0 ≡ Some v =
    ap (λ z. along row.values (take t p.blocks) z 0 0 0) (sym e) ∙ d.answered in
    record {
      places = range_with_len 0 p.shape.sites;
      order = rises;
      list = L;
      chosen = record { order = in-turn p.shape.sites; list_is = refl };
      answered = sym (along-first row.values t p.blocks L 0 0 0 (below-past L)) ∙ here;
    }

-- ---- the list, prefix by prefix
-- one prefix more
pub turn_next : (p : Part) (o list more segment : List ℕ) (j : ℕ) → o ≡ range_with_len 0 p.shape.sites → j ≤ p.shape.sites
    → list ++ list_from p (range_with_len 0 p.shape.sites) j ≡ list_in_turn p → segment ≡ segment_of p (take j o) → more ≡ list ++ segment
    → more ++ list_from p (range_with_len 0 p.shape.sites) (j + 1) ≡ list_in_turn p
turn_next p o list more segment j places within so_far is grown =
    let R : List ℕ = range_with_len 0 p.shape.sites in
    let s : segment ≡ segment_of p (take j R) = is ∙ ap (λ z. segment_of p (take j z)) places in
    let g : list_from p R j ≡ segment_of p (take j R) ++ list_from p R (j + 1) =
    list_goes p R j (omega (arith, within, length-range_with_len 0 p.shape.sites)) in
    ap (λ z. z ++ list_from p R (j + 1)) (grown ∙ ap (λ z. list ++ z) s)
    ∙ append_assoc list (segment_of p (take j R)) (list_from p R (j + 1))
    ∙ ap (λ z. list ++ z) (sym g)
    ∙ so_far

-- after the last one
pub turn_end : (p : Part) (list : List ℕ) (j : ℕ) → p.shape.sites < j → list ++ list_from p (range_with_len 0 p.shape.sites) j ≡ list_in_turn p
    → list ≡ list_in_turn p
turn_end p list j past so_far =
    sym (append-nil list)
    ∙ ap (λ z. list ++ z) (sym (list_ends p (range_with_len 0 p.shape.sites) j (omega (arith, past, length-range_with_len 0 p.shape.sites))))
    ∙ so_far

-- ---- the parts together
-- what is made of the list is a program
pub one_order_joins : (p : Part) (list : List ℕ) (past : ℕ) (blocks : List Code) (segments : List (List ℕ)) → IsProgram p → list ≡ list_in_turn p
    → past ≡ past_all list → blocks ≡ take past p.blocks → segments ≡ at_once list p.segments
    → IsProgram (record { shape = p.shape; filter = None; blocks = blocks; segments = segments })
one_order_joins p list past blocks segments h l t b s =
    let u : past ≡ past_all (list_in_turn p) = t ∙ ap past_all l in
    let c : blocks ≡ take (past_all (list_in_turn p)) p.blocks = b ∙ ap (λ n. take n p.blocks) u in
    let d : segments ≡ at_once (list_in_turn p) p.segments = s ∙ ap (λ z. at_once z p.segments) l in
    subst (λ z. IsProgram (record { shape = p.shape; filter = None; blocks = z; segments = segments })) (sym c)
    (subst (λ z. IsProgram (record { shape = p.shape; filter = None; blocks = take (past_all (list_in_turn p)) p.blocks; segments = z })) (sym d)
    (one-order-is-program p h))

-- so does what is equal to it, where it is made
pub decided : {E : Type 0} (r : Result Part E) (p : Part) → IfOk r (λ q. q ≡ in_one_order p) → IfOk r (λ q. IsProgram p)
    → IfOk r (λ q. DecidesRising q (without_filter p))
decided (Ok q) p e h = subst (λ z. DecidesRising z (without_filter p)) (sym e) (one-order-decides p h)
decided (Err x) p e h = tt
