-- The pairs of places of which a claim holds, in order.
use Rattle.std.specs.Prelude.{◌≡◌, ◌⊎◌, ℕ, ◌<◌, List, ◌++◌, flat_map, All, AllPairs, Contains}

-- an ordered pair of places
pub record Pair : Type 0 where
  pub from : ℕ
  pub to : ℕ

-- the pair of places i and j, in this order
abbrev pub pair : ℕ → ℕ → Pair
pair i j = record { from = i; to = j }

-- by the first place and then the second
abbrev pub PairPrecedes : Pair → Pair → Type 0
PairPrecedes a b = (a.from < b.from) ⊎ ((a.from ≡ b.from) × (a.to < b.to))

-- these are the pairs of which the claim holds: each one is there, and they rise
pub record ArePairs (claim : ℕ → ℕ → Type 0) (pairs : List Pair) : Type 0 where
  pub each : All (λ e. claim e.from e.to) pairs
  pub all : (i j : ℕ) → claim i j → Contains pairs (pair i j)
  pub rising : AllPairs PairPrecedes pairs

-- those of them that precede a pair
pub record ArePairsBefore (claim : ℕ → ℕ → Type 0) (i j : ℕ) (pairs : List Pair) : Type 0 where
  pub each : All (λ e. claim e.from e.to × PairPrecedes e (pair i j)) pairs
  pub all : (k l : ℕ) → claim k l → PairPrecedes (pair k l) (pair i j) → Contains pairs (pair k l)
  pub rising : AllPairs PairPrecedes pairs

-- a text that begins so and goes on with the lines of the pairs that precede i and j
pub record SoFar (claim : ℕ → ℕ → Type 0) (line : Pair → List ℕ) (start : List ℕ) (i j : ℕ)
    (text : List ℕ) : Type 0 where
  pub pairs : List Pair
  pub are : ArePairsBefore claim i j pairs
  pub is : text ≡ start ++ flat_map line pairs

-- a text is the lines of all pairs
pub record AreLines (claim : ℕ → ℕ → Type 0) (line : Pair → List ℕ) (text : List ℕ) : Type 0 where
  pub pairs : List Pair
  pub are : ArePairs claim pairs
  pub is : text ≡ flat_map line pairs
