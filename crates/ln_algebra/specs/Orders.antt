-- Orders of infinitesimals: what one must be, and the two that there are.
-- Source: Yap's admissible orders (1990): total, kept by sums, with the vector of zeros first.
use Rattle.std.specs.Prelude.{◌≡◌, ℕ, ◌<◌, ◌⊎◌, List, length}
use Rattle.ln_algebra.specs.Vector.{plus, total_degree, zeros}
use Rattle.ln_algebra.specs.Earlier.{Earlier, IsOver, Sites}

-- A relation on exponent vectors is an order of infinitesimals: on vectors over the variables of sites it is a total order with
-- the vector of zeros first, and it is kept where one vector is added to both sides.
pub record IsAdmissible (n : ℕ) (sites : Sites) (before : List ℕ → List ℕ → Type 0) : Type 0 where
  pub irreflexive : (a : List ℕ) → before a a → ⊥
  pub transitive : (a b c : List ℕ) → before a b → before b c → before a c
  pub total : (a b : List ℕ) → IsOver n sites a → IsOver n sites b → (a ≡ b) ⊎ (before a b ⊎ before b a)
  pub zero_first : (a : List ℕ) → IsOver n sites a → (a ≡ zeros n) ⊎ before (zeros n) a
  pub sums : (a b c : List ℕ) → length a ≡ length c → length b ≡ length c → before a b → before (plus a c) (plus b c)

-- a has the smaller total degree, or the total degrees are equal and a is earlier: the order by total degree.
abbrev pub GradedEarlier : Sites → List ℕ → List ℕ → Type 0
GradedEarlier sites a b = (total_degree a < total_degree b) ⊎ ((total_degree a ≡ total_degree b) × Earlier sites a b)

-- By the smallest infinitesimal in which two vectors differ alone, or by total degree first.
pub data Rank : Type 0 where
  BySmallest : Rank
  ByDegree : Rank

-- The order of that name.
abbrev pub Before : Rank → Sites → List ℕ → List ℕ → Type 0
Before BySmallest sites = Earlier sites
Before ByDegree sites = GradedEarlier sites
