-- All orders of n sites, each as the list of places, the largest infinitesimals first.
use Rattle.std.specs.Prelude.{◌≡◌, ◌↔◌, ℕ, ◌+◌, ◌*◌, ◌≤◌, nat_lt, List, [], ◌∷◌, ◌++◌, length, map, count_by, Contains, if◌then◌else◌}
use Rattle.std.proofs.Common.{zero, suc}
use Rattle.std.specs.Cmp.Lexicographic.{slice_cmp}
use Rattle.std.specs.List.Sorted.{IsStrictlySortedBy}
use Rattle.std.specs.Ordering.{nat_cmp}
use Rattle.ln_order.specs.Order.{ArePlaces}

-- these are the places of k sites, each once
pub record IsOrderOf (k : ℕ) (places : List ℕ) : Type 0 where
  pub size : length places ≡ k
  pub each : ArePlaces places

-- the place, among all sites, of the one with place j among those other than x
abbrev pub past : ℕ → ℕ → ℕ
past x j = if nat_lt j x then j else suc j

-- site x first, and after it the other sites in this order
abbrev pub behind : ℕ → List ℕ → List ℕ
behind x o = x ∷ map (past x) o

-- each of the first n sites in turn, and after it the other sites in each of these orders in turn
abbrev pub firsts : ℕ → List (List ℕ) → List (List ℕ)
firsts zero os = []
firsts (suc n) os = firsts n os ++ map (behind n) os

-- all orders of k sites; `OrdersAreAll` states that each is there once, and that they are sorted as lists of places
abbrev pub orders_of : ℕ → List (List ℕ)
orders_of zero = [] ∷ []
orders_of (suc k) = firsts (suc k) (orders_of k)

-- how many of the sites after the first come before it in order of the arguments
abbrev pub smaller_behind : ℕ → List ℕ → ℕ
smaller_behind x o = count_by (λ y. nat_lt y x) o

-- the number of the order whose remaining sites these are, after sites that make the number n
abbrev pub number_from : ℕ → List ℕ → ℕ
number_from n [] = n
number_from n (x ∷ o) = number_from (n * suc (length o) + smaller_behind x o) o

-- the orders of at most 5 sites are exactly the lists of their places in which each occurs once; they are sorted, and so each is there once
abbrev pub OrdersAreAll : Type 0
OrdersAreAll = (k : ℕ) → k ≤ 5 → ((o : List ℕ) → Contains (orders_of k) o ↔ IsOrderOf k o)
    × IsStrictlySortedBy (slice_cmp nat_cmp) (orders_of k)
