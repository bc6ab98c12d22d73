-- The order of sites by their indices.
use Rattle.std.specs.Prelude.{◌≡◌, ◌≢◌, ℕ, suc, ◌<◌, ◌<ℤ◌, ℤ, pos, List, [], ◌∷◌, ◌++◌, length, take}
use Rattle.std.specs.Prelude.{slice_index_or, All, AllPairs, Contains, Option, Some, None, if◌then◌else◌}
use Rattle.std.specs.List.{list_any}
use Rattle.std.specs.Ordering.{int_eq}

-- the index of the site at a place
abbrev pub index_at : List ℤ → ℕ → ℤ
index_at indices k = slice_index_or indices k (pos 0)

-- the first place, from place k on, whose index is among those before it, of which `before` are before place k
abbrev pub equal_behind : List ℤ → ℕ → List ℤ → Option ℕ
equal_behind before k [] = None
equal_behind before k (z ∷ zs) = if list_any (λ y. int_eq y z) before then Some k else equal_behind (before ++ z ∷ []) (suc k) zs

-- the first place whose index an earlier place has
abbrev pub first_equal : List ℤ → Option ℕ
first_equal indices = equal_behind [] 0 indices

-- the index at place k is that of an earlier place, and those before place k differ
pub record IsFirstEqual (indices : List ℤ) (k : ℕ) : Type 0 where
  pub within : k < length indices
  pub earlier : Contains (take k indices) (index_at indices k)
  pub differ : AllPairs (λ y z. y ≢ z) (take k indices)

-- these are the places of all sites, each once, by rising index: the largest infinitesimals come first
pub record IsOrder (indices : List ℤ) (places : List ℕ) : Type 0 where
  pub size : length places ≡ length indices
  pub each : All (λ k. k < length indices) places
  pub rising : AllPairs (λ j k. index_at indices j <ℤ index_at indices k) places

-- these are places of as many sites, each once
pub record ArePlaces (places : List ℕ) : Type 0 where
  pub within : All (λ k. k < length places) places
  pub differ : AllPairs (λ j k. j ≢ k) places
