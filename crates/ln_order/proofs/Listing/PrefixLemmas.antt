-- Prefixes of orders: each is there, they are sorted, and each is at its number.
use Rattle.std.proofs.Common.{◌≡◌, ◌⊎◌, inl, inr, ℕ, zero, suc, ◌+◌, ◌*◌, ◌-◌, ◌<◌, ◌≤◌, Bool, true, false, cond, List, []}
use Rattle.std.proofs.Common.{◌∷◌, length, map, get_or, take, drop, refl, sym, ◌∙◌, ap, arith, add-one, drop-cons, Option, Some, None, ◌&&◌}
use Rattle.std.specs.Prelude.{All, Contains, if◌then◌else◌, nat_lt, slice_get}
use Rattle.std.specs.Cmp.Lexicographic.{slice_cmp}
use Rattle.std.specs.Ordering.{nat_cmp}
use Rattle.std.specs.declared.cmp.Ordering.TheVariants.{Equal}
use Rattle.std.proofs.lemmas.Bool.{and_parts, cases_lt}
use Rattle.std.proofs.lemmas.Bool.Decides.{nat_tests}
use Rattle.std.proofs.lemmas.List.{length-map, take-map}
use Rattle.std.proofs.lemmas.List.Elements.{All-append, All-head, All-nil, All-tail}
use Rattle.std.proofs.lemmas.Option.{slice_get-get_or, slice_get_within}
use Rattle.ln_algebra.specs.Vector.{same_vector}
use Rattle.ln_algebra.proofs.Expanded.Normal.{same_vector-is, same_vector-refl}
use Rattle.ln_order.specs.Order.{ArePlaces}
use Rattle.ln_order.specs.Orders.{IsOrderOf, behind, orders_of, past, smaller_behind}
use Rattle.ln_order.proofs.Listing.OrdersLemmas.{are_sorted, are_sorted_is, back, before_all, behind-back, behind-places, firsts-are}
use Rattle.ln_order.proofs.Listing.OrdersLemmas.{in-firsts, is-member, is_less, member-is, others-places}
use Rattle.ln_order.specs.Prefixes.{Follows, FrontsFollow, FrontsArePrefixes, IsPrefixOf, PrefixesAreAll, beside, joined, number_of_front}
use Rattle.ln_order.specs.Prefixes.{prefixes_of, tree_size}

-- ---- by computing, for up to five sites
-- is this prefix at this number?
abbrev stands : Option (List ℕ) → List ℕ → Bool
stands None p = false
stands (Some q) p = same_vector q p

abbrev fronts_stand : List (List ℕ) → List ℕ → ℕ → Bool
fronts_stand ps o zero = true
fronts_stand ps o (suc j) = stands (slice_get ps (number_of_front o j)) (take j o) && fronts_stand ps o j

abbrev all_stand : List (List ℕ) → List (List ℕ) → ℕ → Bool
all_stand ps [] n = true
all_stand ps (o ∷ os) n = fronts_stand ps o n && all_stand ps os n

sorted_all : (k : ℕ) → k ≤ 5 → are_sorted (prefixes_of k) ≡ true
sorted_all zero h = refl
sorted_all (suc zero) h = refl
sorted_all (suc (suc zero)) h = refl
sorted_all (suc (suc (suc zero))) h = refl
sorted_all (suc (suc (suc (suc zero)))) h = refl
sorted_all (suc (suc (suc (suc (suc zero))))) h = refl
sorted_all (suc (suc (suc (suc (suc (suc k)))))) h = absurd (omega arith)

stand_all : (k : ℕ) → k ≤ 5 → all_stand (prefixes_of k) (orders_of k) (suc k) ≡ true
stand_all zero h = refl
stand_all (suc zero) h = refl
stand_all (suc (suc zero)) h = refl
stand_all (suc (suc (suc zero))) h = refl
stand_all (suc (suc (suc (suc zero)))) h = refl
stand_all (suc (suc (suc (suc (suc zero))))) h = refl
stand_all (suc (suc (suc (suc (suc (suc k)))))) h = absurd (omega arith)

size_all : (k : ℕ) → k ≤ 5 → length (prefixes_of k) ≡ tree_size k
size_all zero h = refl
size_all (suc zero) h = refl
size_all (suc (suc zero)) h = refl
size_all (suc (suc (suc zero))) h = refl
size_all (suc (suc (suc (suc zero)))) h = refl
size_all (suc (suc (suc (suc (suc zero))))) h = refl
size_all (suc (suc (suc (suc (suc (suc k)))))) h = absurd (omega arith)

-- ---- sorted
-- nothing is before itself
nat_self : (n : ℕ) → nat_cmp n n ≡ Equal
nat_self n = grind (arith, nat_tests)

self_not : (x : List ℕ) → is_less (slice_cmp nat_cmp x x) ≡ false
self_not [] = refl
self_not (n ∷ x) = let r = self_not x in rw (nat_self n) r

not_behind : (x : List ℕ) (ys : List (List ℕ)) (b : ℕ) → before_all x ys ≡ true → slice_get ys b ≡ Some x → ⊥
not_behind x [] b h e = cc
not_behind x (y ∷ ys) zero h e =
    let p = and_parts (is_less (slice_cmp nat_cmp x y)) (before_all x ys) h in
    let q : y ≡ x = cc in
    let r : is_less (slice_cmp nat_cmp x x) ≡ true = rw q at p.0 in
    let f : true ≡ false = sym r ∙ self_not x in cc
not_behind x (y ∷ ys) (suc b) h e = not_behind x ys b (and_parts (is_less (slice_cmp nat_cmp x y)) (before_all x ys) h).1 e

-- so each is at one place
one_place : (xs : List (List ℕ)) (p : List ℕ) (a b : ℕ) → are_sorted xs ≡ true → slice_get xs a ≡ Some p → slice_get xs b ≡ Some p → a ≡ b
one_place [] p a b s e f = cc
one_place (x ∷ xs) p zero zero s e f = refl
one_place (x ∷ xs) p zero (suc b) s e f =
    let q : x ≡ p = cc in
    absurd (not_behind x xs b (and_parts (before_all x xs) (are_sorted xs) s).0 (rw q f))
one_place (x ∷ xs) p (suc a) zero s e f =
    let q : x ≡ p = cc in
    absurd (not_behind x xs a (and_parts (before_all x xs) (are_sorted xs) s).0 (rw q e))
one_place (x ∷ xs) p (suc a) (suc b) s e f = ap suc (one_place xs p a b (and_parts (before_all x xs) (are_sorted xs) s).1 e f)

-- ---- what is in the list
-- there is an order of k sites
some-order : (k : ℕ) → (o : List ℕ) × IsOrderOf k o
some-order zero = ([], member-is zero [] (0, omega arith, refl))
some-order (suc k) =
    let r = some-order k in
    (behind 0 r.0, record { size = omega (arith, length-map r.0 (past 0), r.1.size); each = behind-places 0 r.0 (omega arith) r.1.each })

take-behind : (x j : ℕ) (o : List ℕ) → take (suc j) (behind x o) ≡ behind x (take j o)
take-behind x j o = ap (λ z. x ∷ z) (take-map (past x) j o)

-- each member is a prefix
pub prefix-is : (k : ℕ) (p : List ℕ) → Contains (prefixes_of k) p → IsPrefixOf k p
prefix-is zero p (zero, l, e) = let r = some-order 0 in record { order = r.0; full = r.1; places = 0; within = omega arith; front = sym e }
prefix-is zero p (suc i, l, e) = absurd (omega arith)
prefix-is (suc k) p (zero, l, e) = let r = some-order (suc k) in record { order = r.0; full = r.1; places = 0; within = omega arith; front = sym e }
prefix-is (suc k) p (suc i, l, e) =
    let f = firsts-are (suc k) (prefixes_of k) p (i, omega (arith, l), e) in
    let q = f.2.0 in
    let r = prefix-is k q f.2.1 in
    record {
      order = behind f.0 r.order;
      full = record {
        size = omega (arith, length-map r.order (past f.0), r.full.size);
        each = behind-places f.0 r.order (omega (arith, f.1, r.full.size)) r.full.each;
      };
      places = suc r.places;
      within = omega (arith, r.within);
      front = f.2.2 ∙ ap (behind f.0) r.front ∙ sym (take-behind f.0 r.places r.order);
    }

-- and each prefix is a member
front-in : (k : ℕ) (o : List ℕ) (j : ℕ) → IsOrderOf k o → j ≤ k → Contains (prefixes_of k) (take j o)
front-in zero o zero f h = (0, omega arith, refl)
front-in zero o (suc j) f h = absurd (omega arith)
front-in (suc k) o zero f h = (0, omega arith, refl)
front-in (suc k) [] (suc j) f h = absurd (omega (arith, f.size))
front-in (suc k) (x ∷ o) (suc j) f h =
    let ih = front-in k (map (back x) o) j (record { size = omega (arith, length-map o (back x), f.size); each = others-places x o f.each }) (omega arith) in
    let c = in-firsts (suc k) (prefixes_of k) x (take j (map (back x) o)) (omega (arith, f.each.within 0 0 (omega arith), f.size)) ih in
    let e : behind x (take j (map (back x) o)) ≡ take (suc j) (x ∷ o) = sym (take-behind x j (map (back x) o)) ∙ ap (take (suc j)) (behind-back x o f.each) in
    let r : Contains (prefixes_of (suc k)) (behind x (take j (map (back x) o))) = (suc c.0, omega (arith, c.1), c.2) in
    rw e at r

is-prefix : (k : ℕ) (p : List ℕ) → IsPrefixOf k p → Contains (prefixes_of k) p
is-prefix k p r = rw r.front (front-in k r.order r.places r.full r.within)

-- the prefixes of orders of at most 5 sites are just the members of their list, which is sorted and has `tree_size` members
pub prefixes-are-all : PrefixesAreAll
prefixes-are-all k few = ((λ p. (prefix-is k p, is-prefix k p)), are_sorted_is (prefixes_of k) (sorted_all k few), size_all k few)

-- ---- numbers
stands-is : (x : Option (List ℕ)) (p : List ℕ) → stands x p ≡ true → x ≡ Some p
stands-is None p h = cc
stands-is (Some q) p h = ap (λ z. Some z) (same_vector-is q p h)

front-at : (ps : List (List ℕ)) (o : List ℕ) (n j : ℕ) → fronts_stand ps o n ≡ true → j < n → slice_get ps (number_of_front o j) ≡ Some (take j o)
front-at ps o zero j h l = absurd (omega arith)
front-at ps o (suc n) j h l = go (front-at ps o n j) (cases_lt j n) (and_parts (stands (slice_get ps (number_of_front o n)) (take n o)) (fronts_stand ps o n) h)
  where
    go : (fronts_stand ps o n ≡ true → j < n → slice_get ps (number_of_front o j) ≡ Some (take j o)) → (j < n) ⊎ (n ≤ j)
        → (stands (slice_get ps (number_of_front o n)) (take n o) ≡ true) × (fronts_stand ps o n ≡ true) → slice_get ps (number_of_front o j) ≡ Some (take j o)
    go ih (inl k) p = ih p.1 k
    go ih (inr k) p = let e : j ≡ n = omega arith in rw e (stands-is (slice_get ps (number_of_front o n)) (take n o) p.0)

all-at : (ps os : List (List ℕ)) (n : ℕ) (o : List ℕ) → all_stand ps os n ≡ true → Contains os o → fronts_stand ps o n ≡ true
all-at ps [] n o h c = absurd (omega (arith, c.1))
all-at ps (u ∷ os) n o h (zero, l, e) = let p = and_parts (fronts_stand ps u n) (all_stand ps os n) h in rw e at p.0
all-at ps (u ∷ os) n o h (suc k, l, e) = all-at ps os n o (and_parts (fronts_stand ps u n) (all_stand ps os n) h).1 (k, omega (arith, l), e)

-- a prefix is at its number
pub front_number : (k : ℕ) (o : List ℕ) (j : ℕ) → k ≤ 5 → IsOrderOf k o → j ≤ k → slice_get (prefixes_of k) (number_of_front o j) ≡ Some (take j o)
front_number k o j few p h =
    front-at (prefixes_of k) o (suc k) j (all-at (prefixes_of k) (orders_of k) (suc k) o (stand_all k few) (is-member k o p)) (omega arith)

-- the number of a prefix is below the number of prefixes
pub front_small : (k : ℕ) (o : List ℕ) (j : ℕ) → k ≤ 5 → IsOrderOf k o → j ≤ k → number_of_front o j < tree_size k
front_small k o j few p h = omega (arith, slice_get_within (prefixes_of k) (number_of_front o j) (take j o) (front_number k o j few p h), size_all k few)

some_same : {A : Type 0} (x y : A) → Some x ≡ Some y → x ≡ y
some_same x y e = cc

-- and two prefixes have one number exactly where they are one
pub fronts-are-prefixes : FrontsArePrefixes
fronts-are-prefixes k i j o u few p q h l = (
  front_small k o i few p h,
  (
    λ e. some_same (take i o) (take j u) (sym (front_number k o i few p h) ∙ ap (slice_get (prefixes_of k)) e ∙ front_number k u j few q l),
    λ e. one_place (prefixes_of k) (take j u) (number_of_front o i) (number_of_front u j) (sorted_all k few)
        (front_number k o i few p h ∙ ap (λ z. Some z) e) (front_number k u j few q l),
  ),
)

-- ---- steps of the loop
few_prefixes : (k : ℕ) → k ≤ 5 → tree_size k < 327
few_prefixes zero h = omega arith
few_prefixes (suc zero) h = omega arith
few_prefixes (suc (suc zero)) h = omega arith
few_prefixes (suc (suc (suc zero))) h = omega arith
few_prefixes (suc (suc (suc (suc zero)))) h = omega arith
few_prefixes (suc (suc (suc (suc (suc zero))))) h = omega arith
few_prefixes (suc (suc (suc (suc (suc (suc k)))))) h = absurd (omega arith)

-- what place i adds
abbrev pub added : List ℕ → ℕ → ℕ
added xs i = smaller_behind (get_or xs i 0) (drop (i + 1) xs) * tree_size (length (drop (i + 1) xs))

-- the number from place i on is what place i adds, and 1, and the number from the next place on
pub front_step : (xs : List ℕ) (i j : ℕ) → i < length xs → i < j
    → number_of_front (drop i xs) (j - i) ≡ suc (added xs i) + number_of_front (drop (i + 1) xs) (j - (i + 1))
front_step xs i j h l =
    let e : drop i xs ≡ get_or xs i 0 ∷ drop (suc i) xs = drop-cons xs i 0 h in
    let q : j - i ≡ suc (j - (i + 1)) = omega (arith, l) in
    rw (e, q, add-one) refl

module _ (xs : List ℕ) (n i j : ℕ) (few : length xs ≤ 5) (p : ArePlaces xs) (within : j ≤ length xs) where
  the-order : IsOrderOf (length xs) xs
  the-order = record { size = refl; each = p }

  -- a step of the loop over the places of a prefix leads to a number below 327
  pub step_small : i < j → n + number_of_front (drop i xs) (j - i) ≡ number_of_front xs j → n + suc (added xs i) < 327
  step_small l e =
      omega (arith, front_step xs i j (omega (arith, l, within)) l, e, front_small (length xs) xs j few the-order within, few_prefixes (length xs) few)

  front-zero : (o : List ℕ) → number_of_front o 0 ≡ 0
  front-zero [] = refl
  front-zero (x ∷ o) = refl

  -- after the last place the number so far is that of the prefix
  pub done_is : j ≤ i → n + number_of_front (drop i xs) (j - i) ≡ number_of_front xs j → n ≡ number_of_front xs j
  done_is l e =
      let q : j - i ≡ 0 = omega (arith, l) in
      let z : number_of_front (drop i xs) (j - i) ≡ 0 = ap (number_of_front (drop i xs)) q ∙ front-zero (drop i xs) in
      omega (arith, e, z)

  -- after the last place the prefix is at the number so far in the list of all prefixes
  pub done_there : j ≤ i → n + number_of_front (drop i xs) (j - i) ≡ number_of_front xs j → slice_get (prefixes_of (length xs)) n ≡ Some (take j xs)
  done_there l e = rw (done_is l e) (front_number (length xs) xs j few the-order within)

  -- after the last place the number so far is below the number of all prefixes
  pub done_small : j ≤ i → n + number_of_front (drop i xs) (j - i) ≡ number_of_front xs j → n < tree_size (length xs)
  done_small l e = rw (done_is l e) (front_small (length xs) xs j few the-order within)

-- a prefix is at one number
pub one_number : (k : ℕ) (p : List ℕ) (a b : ℕ) → k ≤ 5 → slice_get (prefixes_of k) a ≡ Some p → slice_get (prefixes_of k) b ≡ Some p → a ≡ b
one_number k p a b few e f = one_place (prefixes_of k) p a b (sorted_all k few) e f

-- ---- what is at a prefix
beside-is : (qs ss : List (List ℕ)) (p : List ℕ) (n : ℕ) (s : List ℕ) → ((b : ℕ) → slice_get qs b ≡ Some p → b ≡ n)
    → slice_get qs n ≡ Some p → slice_get ss n ≡ Some s → beside qs ss p ≡ s
beside-is [] ss p n s one h k = cc
beside-is (q ∷ qs) [] p n s one h k = cc
beside-is (q ∷ qs) (t ∷ ss) p n s one h k = go (same_vector q p) refl n h k one (λ m f g o. beside-is qs ss p m s o f g) where
  go : (b : Bool) → same_vector q p ≡ b → (n : ℕ) → slice_get (q ∷ qs) n ≡ Some p → slice_get (t ∷ ss) n ≡ Some s
      → ((b : ℕ) → slice_get (q ∷ qs) b ≡ Some p → b ≡ n)
      → ((m : ℕ) → slice_get qs m ≡ Some p → slice_get ss m ≡ Some s → ((b : ℕ) → slice_get qs b ≡ Some p → b ≡ m) → beside qs ss p ≡ s)
      → cond b t (beside qs ss p) ≡ s
  go true e zero h k one ih = cc
  go true e (suc n) h k one ih = let z : 0 ≡ suc n = one 0 (ap (λ z. Some z) (same_vector-is q p e)) in absurd (omega (arith, z))
  go false e zero h k one ih = let z : q ≡ p = cc in let t : true ≡ false = sym (same_vector-refl p) ∙ ap (λ y. same_vector y p) (sym z) ∙ e in absurd cc
  go false e (suc n) h k one ih = ih n h k (λ b f. (let z : suc b ≡ suc n = one (suc b) f in omega (arith, z)))

-- `beside` returns what is at the number of a prefix
pub beside_at : (k : ℕ) (ss : List (List ℕ)) (p : List ℕ) (n : ℕ) (s : List ℕ) → k ≤ 5 → slice_get (prefixes_of k) n ≡ Some p
    → slice_get ss n ≡ Some s → beside (prefixes_of k) ss p ≡ s
beside_at k ss p n s few h i = beside-is (prefixes_of k) ss p n s (λ b q. one_number k p b n few q h) h i

-- what is read at the number of a prefix is what `beside` returns
pub read-is : (k : ℕ) (ss : List (List ℕ)) (p : List ℕ) (i : ℕ) (s : List ℕ) → k ≤ 5 → length ss ≡ length (prefixes_of k)
    → slice_get (prefixes_of k) i ≡ Some p → s ≡ get_or ss i s → s ≡ beside (prefixes_of k) ss p
read-is k ss p i s few size h e =
    let l : i < length ss = omega (arith, slice_get_within (prefixes_of k) i p h, size) in
    sym (beside_at k ss p i s few h (slice_get-get_or ss i s l ∙ ap (λ z. Some z) (sym e)))

-- ---- numbers of a kind
module _ (P : ℕ → Type 0) where
  -- what holds of the numbers of all lists holds of those of the one that is read
  pub beside-all : (qs ss : List (List ℕ)) (q : List ℕ) → All (λ s. All P s) ss → All P (beside qs ss q)
  beside-all [] ss q h = All-nil P
  beside-all (x ∷ qs) [] q h = All-nil P
  beside-all (x ∷ qs) (s ∷ ss) q h = by_case (same_vector x q) (beside-all qs ss q (All-tail (λ t. All P t) s ss h)) where
    by_case : (b : Bool) → All P (beside qs ss q) → All P (if b then s else beside qs ss q)
    by_case true r = All-head (λ t. All P t) s ss h
    by_case false r = r

  -- what holds of the numbers of each of several lists holds of those of all, one list after the other
  pub joined-all : (f : ℕ → List ℕ) (ns : List ℕ) → ((n : ℕ) → All P (f n)) → All P (joined (map f ns))
  joined-all f [] h = All-nil P
  joined-all f (n ∷ ns) h = All-append P (f n) (joined (map f ns)) (h n) (joined-all f ns h)

-- ---- one prefix after the other
abbrev follows : List ℕ → List ℕ → Bool
follows p q = nat_lt 0 (length q) && (nat_lt (length q) (suc (suc (length p))) && same_vector (take (length q - 1) p) (take (length q - 1) q))

abbrev all_follow : List ℕ → List (List ℕ) → Bool
all_follow p [] = true
all_follow p (q ∷ qs) = follows p q && all_follow q qs

abbrev each_follows : List (List ℕ) → Bool
each_follows [] = true
each_follows (p ∷ ps) = all_follow p ps

follow_all : (k : ℕ) → k ≤ 5 → each_follows (prefixes_of k) ≡ true
follow_all zero h = refl
follow_all (suc zero) h = refl
follow_all (suc (suc zero)) h = refl
follow_all (suc (suc (suc zero))) h = refl
follow_all (suc (suc (suc (suc zero)))) h = refl
follow_all (suc (suc (suc (suc (suc zero))))) h = refl
follow_all (suc (suc (suc (suc (suc (suc k)))))) h = absurd (omega arith)

less_than : (m n : ℕ) → nat_lt m n ≡ true → m < n
less_than m n h = grind (arith, nat_tests)

follows-is : (p q : List ℕ) → follows p q ≡ true → Follows p q
follows-is p q h =
    let a = and_parts (nat_lt 0 (length q)) (nat_lt (length q) (suc (suc (length p))) && same_vector (take (length q - 1) p) (take (length q - 1) q)) h in
    let b = and_parts (nat_lt (length q) (suc (suc (length p)))) (same_vector (take (length q - 1) p) (take (length q - 1) q)) a.1 in
    record {
      some = less_than 0 (length q) a.0;
      near = omega (arith, less_than (length q) (suc (suc (length p))) b.0);
      shared = same_vector-is (take (length q - 1) p) (take (length q - 1) q) b.1;
    }

follow-at : (p : List ℕ) (ps : List (List ℕ)) (i : ℕ) → all_follow p ps ≡ true → i < length ps → Follows (get_or (p ∷ ps) i []) (get_or ps i [])
follow-at p [] i h l = absurd (omega arith)
follow-at p (q ∷ ps) zero h l = follows-is p q (and_parts (follows p q) (all_follow q ps) h).0
follow-at p (q ∷ ps) (suc i) h l = follow-at q ps i (and_parts (follows p q) (all_follow q ps) h).1 (omega (arith, l))

each-at : (ps : List (List ℕ)) (i : ℕ) → each_follows ps ≡ true → suc i < length ps → Follows (get_or ps i []) (get_or ps (suc i) [])
each-at [] i h l = absurd (omega arith)
each-at (p ∷ ps) i h l = follow-at p ps i h (omega (arith, l))

-- each prefix in the list for at most 5 sites follows the one before it
pub fronts-follow : FrontsFollow
fronts-follow k i few l = each-at (prefixes_of k) i (follow_all k few) l
