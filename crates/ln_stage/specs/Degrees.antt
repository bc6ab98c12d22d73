-- What is listed of one total degree, and of all in turn.
use Rattle.std.specs.Prelude.{ℕ, ◌+◌, ◌-◌, List, drop, [], ◌∷◌, length, slice_index, max, nat_le, Bool, false, ◌||◌}
use Rattle.ln_algebra.specs.Walk.{Found}
use Rattle.ln_algebra.specs.Layers.{layers, steps_at, walk_at}
use Rattle.ln_tree.specs.Exps.{Pairs, exponent}
use Rattle.ln_poly.specs.Sparse.{Sparse}
use Rattle.ln_stage.specs.Kept.{rows, term_at}

-- the sum of the exponents of these variables
abbrev pub pairs_degree : List ℕ → Pairs → ℕ
pairs_degree [] a = 0
pairs_degree (v ∷ vs) a = exponent v a + pairs_degree vs a

-- do the exponents of these variables of some term at these places sum up to at least d?
abbrev pub any_reaches : Sparse → List ℕ → ℕ → List ℕ → Bool
any_reaches f vs d [] = false
any_reaches f vs d (i ∷ kept) = nat_le d (pairs_degree vs (term_at f i).0) || any_reaches f vs d kept

-- what is listed from p on in the variables vs, whose exponents sum up to d, and whether the cut ended it
unfoldable pub listed_degree : Sparse → List ℕ → List ℕ → List ℕ → ℕ → Found
listed_degree f vs kept p d = walk_at vs d (rows (length p) f kept) p

-- the part of it in which the first of the variables has the exponent e or more
unfoldable pub listed_degree_from : Sparse → List ℕ → List ℕ → List ℕ → ℕ → ℕ → Found
listed_degree_from f vs kept p d e = steps_at (walk_at (drop 1 vs)) (slice_index vs 0) (rows (length p) f kept) p (d + 1 - e) e

-- the largest sum of the exponents of these variables among the terms at these places
abbrev pub largest_degree : Sparse → List ℕ → List ℕ → ℕ
largest_degree f vs [] = 0
largest_degree f vs (i ∷ kept) = max (pairs_degree vs (term_at f i).0) (largest_degree f vs kept)

-- what is listed from p on in the variables vs, by total degree first, from the degree d on, k degrees
unfoldable pub listed_layers : Sparse → List ℕ → List ℕ → List ℕ → ℕ → ℕ → Found
listed_layers f vs kept p k d = layers k d vs (rows (length p) f kept) p

-- and of all degrees
abbrev pub listed_graded : Sparse → List ℕ → List ℕ → List ℕ → Found
listed_graded f vs kept p = listed_layers f vs kept p (largest_degree f vs kept + 1) 0
