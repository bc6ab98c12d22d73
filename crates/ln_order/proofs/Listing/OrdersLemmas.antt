-- All orders of n sites: each is there, and they are sorted.
use Rattle.std.proofs.Common.{◌≡◌, ◌≢◌, ◌⊎◌, inl, inr, ℕ, zero, suc, ◌+◌, ◌*◌, ◌-◌, ◌<◌, ◌≤◌, Bool, true, false, ltb, eqb, List, [], ◌∷◌}
use Rattle.std.proofs.Common.{length, map, get_or, take, drop, refl, sym, ◌∙◌, ap, arith, add-one, drop-cons, Some, ◌&&◌}
use Rattle.std.specs.Prelude.{All, AllPairs, Contains, slice_get, nat_lt, if◌then◌else◌}
use Rattle.std.specs.Cmp.Lexicographic.{slice_cmp}
use Rattle.std.specs.List.{AllByRecursion}
use Rattle.std.specs.List.Sorted.{IsStrictlySortedBy}
use Rattle.std.specs.Ordering.{nat_cmp}
use Rattle.std.specs.declared.cmp.Ordering.{Ordering}
use Rattle.std.specs.declared.cmp.Ordering.TheVariants.{Less, Equal, Greater}
use Rattle.std.proofs.lemmas.Bool.{and_parts, cases_lt, eqb-true}
use Rattle.std.proofs.lemmas.Bool.Decides.{nat_tests}
use Rattle.std.proofs.lemmas.List.{length-map, get_or-map, same_lists, take_all, drop_all}
use Rattle.std.proofs.lemmas.List.Elements.{Contains-append_left, Contains-append_right, Contains-append_cases, Contains-get_or}
use Rattle.std.proofs.lemmas.Option.{slice_get-get_or}
use Rattle.ln_order.specs.declared.order.Order.{Order}
use Rattle.ln_order.specs.Order.{ArePlaces}
use Rattle.ln_order.specs.Orders.{IsOrderOf, OrdersAreAll, behind, firsts, number_from, orders_of, past, smaller_behind}
use Rattle.ln_order.specs.Places.{order_places}

-- ---- one site before the others
past-below : (x j k : ℕ) → j < k → past x j < suc k
past-below x j k h = grind (arith, nat_tests)

past-other : (x j : ℕ) → x ≢ past x j
past-other x j e = grind (arith, nat_tests)

past-apart : (x i j : ℕ) → i ≢ j → past x i ≢ past x j
past-apart x i j ne e = grind (arith, nat_tests)

at_past : (x : ℕ) (o : List ℕ) (k d : ℕ) → k < length o → get_or (map (past x) o) k d ≡ past x (get_or o k d)
at_past x o k d h = get_or-map (past x) o k d d h

-- a site before an order of the others is an order
pub behind-places : (x : ℕ) (o : List ℕ) → x ≤ length o → ArePlaces o → ArePlaces (behind x o)
behind-places x o few p = record { within = within; differ = differ } where
  within : All (λ k. k < length (behind x o)) (behind x o)
  within zero d h = omega (arith, length-map o (past x))
  within (suc k) d h =
      let l : k < length o = omega (arith, h, length-map o (past x)) in
      rw (at_past x o k d l) (omega (arith, past-below x (get_or o k d) (length o) (p.within k d l), length-map o (past x)))

  differ : AllPairs (λ j k. j ≢ k) (behind x o)
  differ zero zero d l h = absurd (omega arith)
  differ zero (suc j) d l h =
      let m : j < length o = omega (arith, h, length-map o (past x)) in
      rw (at_past x o j d m) (past-other x (get_or o j d))
  differ (suc i) zero d l h = absurd (omega arith)
  differ (suc i) (suc j) d l h =
      let m : j < length o = omega (arith, h, length-map o (past x)) in
      let n : i < length o = omega arith in
      let ne : get_or o i d ≢ get_or o j d = p.differ i j d (omega (arith, l)) m in
      rw (at_past x o i d n, at_past x o j d m) (past-apart x (get_or o i d) (get_or o j d) ne)

-- ---- what is in the list
-- each member of the list of images is the image of a member
pub in-map : {A B : Type 0} (f : A → B) (xs : List A) (y : B) → Contains (map f xs) y → (x : A) × Contains xs x × (y ≡ f x)
in-map f [] y c = absurd (omega (arith, c.1))
in-map f (x ∷ xs) y (zero, l, e) = (x, (0, omega arith, refl), sym e)
in-map f (x ∷ xs) y (suc k, l, e) = let r = in-map f xs y (k, omega (arith, l), e) in (r.0, (suc r.1.0, omega (arith, r.1.1), r.1.2), r.2)

-- and the image of each member is among the images
pub map-in : {A B : Type 0} (f : A → B) (xs : List A) (x : A) → Contains xs x → Contains (map f xs) (f x)
map-in f xs x (k, l, e) = (k, omega (arith, l, length-map xs f), get_or-map f xs k x (f x) l ∙ ap f e)

-- each member has a first site and then an order of the others
pub firsts-are : (n : ℕ) (os : List (List ℕ)) (y : List ℕ) → Contains (firsts n os) y → (x : ℕ) × (x < n) × ((o : List ℕ) × Contains os o × (y ≡ behind x o))
firsts-are zero os y c = absurd (omega (arith, c.1))
firsts-are (suc n) os y c = go (firsts-are n os y) (Contains-append_cases (firsts n os) (map (behind n) os) y c) where
  go : (Contains (firsts n os) y → (x : ℕ) × (x < n) × ((o : List ℕ) × Contains os o × (y ≡ behind x o)))
      → Contains (firsts n os) y ⊎ Contains (map (behind n) os) y → (x : ℕ) × (x < suc n) × ((o : List ℕ) × Contains os o × (y ≡ behind x o))
  go ih (inl h) = let r = ih h in (r.0, omega (arith, r.1), r.2)
  go ih (inr h) = (n, omega arith, in-map (behind n) os y h)

-- and each such is a member
pub in-firsts : (n : ℕ) (os : List (List ℕ)) (x : ℕ) (o : List ℕ) → x < n → Contains os o → Contains (firsts n os) (behind x o)
in-firsts zero os x o h c = absurd (omega arith)
in-firsts (suc n) os x o h c = go (λ l. in-firsts n os x o l c) (cases_lt x n) where
  go : (x < n → Contains (firsts n os) (behind x o)) → (x < n) ⊎ (n ≤ x) → Contains (firsts (suc n) os) (behind x o)
  go ih (inl l) = Contains-append_left (firsts n os) (map (behind n) os) (behind x o) (ih l)
  go ih (inr l) = let e : x ≡ n = omega arith in rw e (Contains-append_right (firsts n os) (map (behind n) os) (behind n o) (map-in (behind n) os o c))

-- each member is an order
pub member-is : (k : ℕ) (o : List ℕ) → Contains (orders_of k) o → IsOrderOf k o
member-is zero o (zero, l, e) =
    rw (← e) (record { size = refl; each = record { within = λ k d h. absurd (omega arith); differ = λ i j d l h. absurd (omega arith) } })
member-is zero o (suc k, l, e) = absurd (omega arith)
member-is (suc k) y c =
    let r = firsts-are (suc k) (orders_of k) y c in
    let o = r.2.0 in
    let p = member-is k o r.2.1 in
    rw r.2.2 (record { size = omega (arith, length-map o (past r.0), p.size); each = behind-places r.0 o (omega (arith, r.1, p.size)) p.each })

-- ---- each order is there
-- the place of a site among those other than x
abbrev pub back : ℕ → ℕ → ℕ
back x j = if nat_lt j x then j else j - 1

-- a site other than x is found again from its place among those other than x
pub back-past : (x j : ℕ) → j ≢ x → past x (back x j) ≡ j
back-past x j ne = grind (arith, nat_tests)

-- among k + 1 sites it is below k
pub back-below : (x j k : ℕ) → j ≢ x → x < suc k → j < suc k → back x j < k
back-below x j k ne h l = grind (arith, nat_tests)

back-apart : (x i j : ℕ) → i ≢ x → j ≢ x → i ≢ j → back x i ≢ back x j
back-apart x i j ni nj ne e = ne (sym (back-past x i ni) ∙ ap (past x) e ∙ back-past x j nj)

-- the list of places among those other than x has, at each place, that of the site there
pub at_back : (x : ℕ) (o : List ℕ) (k d : ℕ) → k < length o → get_or (map (back x) o) k d ≡ back x (get_or o k d)
at_back x o k d h = get_or-map (back x) o k d d h

module _ (x : ℕ) (o : List ℕ) (p : ArePlaces (x ∷ o)) where
  -- in an order that begins with x, no later site is x
  pub other : (k d : ℕ) → k < length o → get_or o k d ≢ x
  other k d h e = p.differ 0 (suc k) d (omega arith) (omega (arith, h)) (sym e)

  -- the others among themselves
  pub others-places : ArePlaces (map (back x) o)
  others-places = record {
    within = λ k d h.
        let l : k < length o = omega (arith, h, length-map o (back x)) in
        rw (at_back x o k d l) (omega (
          arith,
          back-below x (get_or o k d) (length o) (other k d l) (p.within 0 d (omega arith)) (p.within (suc k) d (omega (arith, l))),
          length-map o (back x),
        ));
    differ = λ i j d l h.
        let m : j < length o = omega (arith, h, length-map o (back x)) in
        let n : i < length o = omega arith in
        rw (at_back x o i d n, at_back x o j d m)
        (back-apart x (get_or o i d) (get_or o j d) (other i d n) (other j d m) (p.differ (suc i) (suc j) d (omega (arith, l)) (omega (arith, m))));
  }

  -- after x they are the order
  pub behind-back : behind x (map (back x) o) ≡ x ∷ o
  behind-back =
      ap (λ z. x ∷ z)
      (same_lists (map (past x) (map (back x) o)) o (length-map (map (back x) o) (past x) ∙ length-map o (back x))
      (λ k d h.
      let l : k < length o = omega (arith, h, length-map (map (back x) o) (past x), length-map o (back x)) in
      let m : k < length (map (back x) o) = omega (arith, l, length-map o (back x)) in
      at_past x (map (back x) o) k d m ∙ ap (past x) (at_back x o k d l) ∙ back-past x (get_or o k d) (other k d l)))

-- each order of k sites is in the list of all orders
pub is-member : (k : ℕ) (o : List ℕ) → IsOrderOf k o → Contains (orders_of k) o
is-member zero [] p = (0, omega arith, refl)
is-member zero (x ∷ o) p = absurd (omega (arith, p.size))
is-member (suc k) [] p = absurd (omega (arith, p.size))
is-member (suc k) (x ∷ o) p =
    let ih = is-member k (map (back x) o) (record { size = omega (arith, length-map o (back x), p.size); each = others-places x o p.each }) in
    rw (← behind-back x o p.each) (in-firsts (suc k) (orders_of k) x (map (back x) o) (omega (arith, p.each.within 0 0 (omega arith), p.size)) ih)

-- ---- sorted
-- is the result of a comparison `Less`?
abbrev pub is_less : Ordering → Bool
is_less Less = true
is_less Equal = false
is_less Greater = false

-- only `Less` passes the test
pub less_is : (o : Ordering) → is_less o ≡ true → o ≡ Less
less_is Less e = refl
less_is Equal e = cc
less_is Greater e = cc

-- is x before each of these lists?
abbrev pub before_all : List ℕ → List (List ℕ) → Bool
before_all x [] = true
before_all x (y ∷ ys) = is_less (slice_cmp nat_cmp x y) && before_all x ys

-- is each list before all that follow it?
abbrev pub are_sorted : List (List ℕ) → Bool
are_sorted [] = true
are_sorted (x ∷ xs) = before_all x xs && are_sorted xs

before_all_is : (x : List ℕ) (ys : List (List ℕ)) → before_all x ys ≡ true → AllByRecursion (λ y. slice_cmp nat_cmp x y ≡ Less) ys
before_all_is x [] h = tt
before_all_is x (y ∷ ys) h =
    let p = and_parts (is_less (slice_cmp nat_cmp x y)) (before_all x ys) h in
    (less_is (slice_cmp nat_cmp x y) p.0, before_all_is x ys p.1)

-- then they are strictly sorted
pub are_sorted_is : (xs : List (List ℕ)) → are_sorted xs ≡ true → IsStrictlySortedBy (slice_cmp nat_cmp) xs
unfolding IsStrictlySortedBy
are_sorted_is [] h = tt
are_sorted_is (x ∷ xs) h = let p = and_parts (before_all x xs) (are_sorted xs) h in (before_all_is x xs p.0, are_sorted_is xs p.1)

-- ---- numbers
-- these orders have the numbers from i on
abbrev have_numbers : ℕ → List (List ℕ) → Bool
have_numbers i [] = true
have_numbers i (o ∷ os) = eqb (number_from 0 o) i && have_numbers (suc i) os

have_number : (i : ℕ) (os : List (List ℕ)) (k : ℕ) (d : List ℕ) → have_numbers i os ≡ true → k < length os → number_from 0 (get_or os k d) ≡ i + k
have_number i [] k d h l = absurd (omega arith)
have_number i (o ∷ os) zero d h l = let p = and_parts (eqb (number_from 0 o) i) (have_numbers (suc i) os) h in omega (arith, eqb-true (number_from 0 o) i p.0)
have_number i (o ∷ os) (suc k) d h l =
    let p = and_parts (eqb (number_from 0 o) i) (have_numbers (suc i) os) h in
    omega (arith, have_number (suc i) os k d p.1 (omega (arith, l)))

-- for up to five sites
abbrev pub fits : ℕ → Bool
fits k = are_sorted (orders_of k) && have_numbers 0 (orders_of k) && ltb (length (orders_of k)) 121

-- the orders of at most five sites are sorted, have the numbers from 0 on, and are fewer than 121
pub all_fit : (k : ℕ) → k ≤ 5 → fits k ≡ true
all_fit zero h = refl
all_fit (suc zero) h = refl
all_fit (suc (suc zero)) h = refl
all_fit (suc (suc (suc zero))) h = refl
all_fit (suc (suc (suc (suc zero)))) h = refl
all_fit (suc (suc (suc (suc (suc zero))))) h = refl
all_fit (suc (suc (suc (suc (suc (suc k)))))) h = absurd (omega arith)

module _ (k : ℕ) (few : k ≤ 5) where
  the_fits : (are_sorted (orders_of k) ≡ true) × (have_numbers 0 (orders_of k) ≡ true) × (ltb (length (orders_of k)) 121 ≡ true)
  the_fits =
      let a = and_parts (are_sorted (orders_of k) && have_numbers 0 (orders_of k)) (ltb (length (orders_of k)) 121) (all_fit k few) in
      let b = and_parts (are_sorted (orders_of k)) (have_numbers 0 (orders_of k)) a.0 in
      (b.0, b.1, a.1)

  -- the list of all orders of at most 5 sites is strictly sorted
  pub orders_sorted : IsStrictlySortedBy (slice_cmp nat_cmp) (orders_of k)
  orders_sorted = are_sorted_is (orders_of k) the_fits.0

  -- an order is at its number
  pub number_is : (o : List ℕ) → IsOrderOf k o → slice_get (orders_of k) (number_from 0 o) ≡ Some o
  number_is o p =
      let c = is-member k o p in
      let n : number_from 0 o ≡ c.0 = ap (number_from 0) (sym c.2) ∙ have_number 0 (orders_of k) c.0 o the_fits.1 c.1 ∙ omega arith in
      rw n (slice_get-get_or (orders_of k) c.0 o c.1 ∙ ap (λ z. Some z) c.2)

  -- the number of an order of at most 5 sites is below 121
  pub number_small : (o : List ℕ) → IsOrderOf k o → number_from 0 o < 121
  number_small o p =
      let c = is-member k o p in
      let n : number_from 0 o ≡ c.0 = ap (number_from 0) (sym c.2) ∙ have_number 0 (orders_of k) c.0 o the_fits.1 c.1 ∙ omega arith in
      let t = the_fits.2 in
      grind (arith, nat_tests, n, c.1, t)

-- the number only grows
pub number_grows : (n : ℕ) (o : List ℕ) → n ≤ number_from n o
number_grows n [] = omega arith
number_grows n (x ∷ o) = omega (arith, number_grows (n * suc (length o) + smaller_behind x o) o)

-- the orders of at most 5 sites are just the members of the list, which is sorted
pub orders-are-all : OrdersAreAll
orders-are-all k few = (λ o. (member-is k o, is-member k o), orders_sorted k few)

-- ---- steps of the loops
-- what was written after the first, once all others are
pub all_behind : (first i : ℕ) (others places : List ℕ) → length others ≤ i → take (i + 1) places ≡ first ∷ map (past first) (take i others)
    → i ≤ length others → take (length others + 1) places ≡ behind first others
all_behind first i others places h e l = let q : i ≡ length others = omega arith in rw (← q) (e ∙ ap (λ z. first ∷ map (past first) z) (take_all i others h))

-- the number of an order stays small at each step
pub step_small : (places : List ℕ) (n i : ℕ) → length places ≤ 5 → ArePlaces places → i < length places → number_from n (drop i places) ≡ number_from 0 places
    → n * (length (drop (i + 1) places) + 1) + smaller_behind (get_or places i 0) (drop (i + 1) places) < 121
step_small places n i few p h e =
    let small : number_from 0 places < 121 = number_small (length places) few places (record { size = refl; each = p }) in
    let q : number_from n (get_or places i 0 ∷ drop (suc i) places) ≡ number_from 0 places = ap (number_from n) (sym (drop-cons places i 0 h)) ∙ e in
    rw (add-one, add-one) (omega
    (arith, q, small, number_grows (n * suc (length (drop (suc i) places)) + smaller_behind (get_or places i 0) (drop (suc i) places)) (drop (suc i) places)))

-- at the end the number is the order's
pub number_done : (places : List ℕ) (n i : ℕ) → length places ≤ 5 → ArePlaces places → length places ≤ i
    → number_from n (drop i places) ≡ number_from 0 places → slice_get (orders_of (length places)) n ≡ Some places
number_done places n i few p h e =
    let z : n ≡ number_from 0 places = ap (number_from n) (sym (drop_all i places h)) ∙ e in
    rw z (number_is (length places) few places (record { size = refl; each = p }))

-- the orders of k sites have k places
pub sizes_are : (all : List Order) (k : ℕ) → map order_places all ≡ orders_of k → All (λ o. length (order_places o) ≡ k) all
sizes_are all k e i d h =
    let at : get_or (map order_places all) i [] ≡ order_places (get_or all i d) = get_or-map order_places all i d [] h in
    let l : i < length (orders_of k) = omega (arith, h, length-map all order_places, ap length e) in
    let c : Contains (orders_of k) (get_or (orders_of k) i []) = Contains-get_or (orders_of k) i [] l in
    (let q : get_or (orders_of k) i [] ≡ order_places (get_or all i d) = ap (λ z. get_or z i []) (sym e) ∙ at in
    rw q at (member-is k (get_or (orders_of k) i []) c)).size
