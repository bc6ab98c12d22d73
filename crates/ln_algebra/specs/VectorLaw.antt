-- The laws of vectors: all ways to write one as a sum.
use Rattle.std.specs.Prelude.{◌≡◌, ℕ, pos, List, length, if◌then◌else◌}
use Rattle.ln_algebra.specs.Vector.{IsSplit, IsWay, covered_by, covers, how_many, is_pair, same_vector, same_vectors, splits, ways}

-- `splits a` has each pair of vectors whose sum is a exactly once, and nothing else.
abbrev pub SplitsAreAllSums : Type 0
SplitsAreAllSums =
    (a b c : List ℕ) →
    (IsSplit a b c → how_many (is_pair b c) (splits a) ≡ pos 1)
    × ((IsSplit a b c → ⊥) → how_many (is_pair b c) (splits a) ≡ pos 0)

-- `ways k a` has each list of k vectors whose sum is a exactly once, and nothing else.
abbrev pub WaysAreAllSums : Type 0
WaysAreAllSums =
    (k : ℕ) (a : List ℕ) (bs : List (List ℕ)) →
    (IsWay k a bs → how_many (λ cs. same_vectors cs bs) (ways k a) ≡ pos 1)
    × ((IsWay k a bs → ⊥) → how_many (λ cs. same_vectors cs bs) (ways k a) ≡ pos 0)

-- `covered_by bound` has each vector that the bound covers exactly once, and no other of its length.
abbrev pub CoveredByIsAll : Type 0
CoveredByIsAll =
    (bound a : List ℕ) → length a ≡ length bound →
    how_many (λ b. same_vector b a) (covered_by bound) ≡ if covers bound a then pos 1 else pos 0
