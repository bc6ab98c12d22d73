-- The graded list as a function on the monomials of a polynomial: a depth-first walk for each total degree in turn, with the cut.
-- Within a degree it goes from the smallest infinitesimal to the largest, takes each exponent in turn, and keeps the monomials that have at least
-- it, as the walk without degrees does. The remaining degree is passed down with it.
-- Where no monomial that is kept can still reach the remaining degree (`NoneReaches`), nothing is listed, so code may skip that branch; every
-- other branch lists something or is cut.
use Rattle.std.specs.Prelude.{◌≡◌, ℕ, ◌+◌, ◌<◌, false, List, [], ◌∷◌, set, slice_index}
use Rattle.std.proofs.Common.{zero, suc}
use Rattle.ln_algebra.specs.Earlier.{Sites}
use Rattle.ln_algebra.specs.Orders.{GradedEarlier}
use Rattle.ln_algebra.specs.Stage.{IsStageListIn}
use Rattle.ln_algebra.specs.Tree.{Tree}
use Rattle.ln_algebra.specs.Vector.{In, zeros}
use Rattle.ln_algebra.specs.Walk.{AreMonomials, Found, IsRanking, all_same, at_least, before, unless_none}

-- The sum of the exponents of these variables.
abbrev pub degree_on : List ℕ → List ℕ → ℕ
degree_on [] a = 0
degree_on (v ∷ vs) a = slice_index a v + degree_on vs a

-- Where no variable remains: the vector p, where nothing of the degree remains either.
abbrev pub ending : ℕ → List (List ℕ) → List ℕ → Found
ending zero ms p = unless_none ms (p ∷ [], all_same ms p)
ending (suc d) ms p = ([], false)

-- The exponents e, e + 1, .. of v in turn, k of them, each with what go lists for it where k - 1, k - 2, .. of the degree remains.
abbrev pub steps_at : (ℕ → List (List ℕ) → List ℕ → Found) → ℕ → List (List ℕ) → List ℕ → ℕ → ℕ → Found
steps_at go v ms p zero e = ([], false)
steps_at go v ms p (suc k) e = unless_none (at_least v e ms) (before (go k (at_least v e ms) (set p v e)) (steps_at go v ms p k (suc e)))

-- The vectors that ms cover and that are p but for the variables vs, whose exponents sum up to d; in order, up to the cut.
abbrev pub walk_at : List ℕ → ℕ → List (List ℕ) → List ℕ → Found
walk_at [] d ms p = ending d ms p
walk_at (v ∷ vs) d ms p = steps_at (walk_at vs) v ms p (suc d) 0

-- The degrees d, d + 1, .., k of them.
abbrev pub layers : ℕ → ℕ → List ℕ → List (List ℕ) → List ℕ → Found
layers zero d vs ms p = ([], false)
layers (suc k) d vs ms p = before (walk_at vs d ms p) (layers k (suc d) vs ms p)

-- Each vector's exponents of these variables sum up to less than the limit.
abbrev pub DegreesBelow : ℕ → List ℕ → List (List ℕ) → Type 0
DegreesBelow limit vs ms = (m : List ℕ) → In ms m → degree_on vs m < limit

-- No vector's exponents of these variables sum up to d: there is no way to d.
abbrev pub NoneReaches : ℕ → List ℕ → List (List ℕ) → Type 0
NoneReaches d vs ms = DegreesBelow d vs ms

-- The walk over degrees, layer by layer, lists exactly the graded stages, in order, each once.
abbrev pub LayersListTheStages : Type 0
LayersListTheStages =
    (n : ℕ) (sites : Sites) (e : Tree) (limit : ℕ) (vs : List ℕ) (ms : List (List ℕ)) →
    IsRanking n sites vs → AreMonomials n e ms → DegreesBelow limit vs ms →
    IsStageListIn (GradedEarlier sites) n sites e (layers limit 0 vs ms (zeros n)).0

-- Where no monomial reaches a degree in the remaining variables, the walk lists nothing and isn't cut.
abbrev pub OutOfReachIsEmpty : Type 0
OutOfReachIsEmpty =
    (vs : List ℕ) (d : ℕ) (ms : List (List ℕ)) (p : List ℕ) → NoneReaches d vs ms → walk_at vs d ms p ≡ ([], false)
