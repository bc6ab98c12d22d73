-- A depth-first walk over the exponents that lists the stages in order, as a function on the monomials of a polynomial.
-- It goes from the smallest infinitesimal to the largest, takes each exponent in turn, and keeps the monomials that have at least it.
use Rattle.std.specs.Prelude.{◌≡◌, ℕ, ◌<◌, ◌⊎◌, Bool, true, false, leb, ◌&&◌, List, [], ◌∷◌, ◌++◌, set, slice_index, if◌then◌else◌}
use Rattle.std.proofs.Common.{zero, suc}
use Rattle.ln_algebra.specs.Vector.{In, same_vector}
use Rattle.ln_algebra.specs.Earlier.{Sites, Of, RanksBefore}
use Rattle.ln_algebra.specs.Stage.{IsMonomial}
use Rattle.ln_algebra.specs.Tree.{Tree}

-- ---- what it is given
-- ms are the monomials, all of them and nothing else.
pub record AreMonomialsBy (monomial : List ℕ → Type 0) (ms : List (List ℕ)) : Type 0 where
  pub monomials : (m : List ℕ) → In ms m → monomial m
  pub all : (m : List ℕ) → monomial m → In ms m

-- ms are the monomials of the normal polynomial of e, over n variables.
abbrev pub AreMonomials : ℕ → Tree → List (List ℕ) → Type 0
AreMonomials n e ms = AreMonomialsBy (IsMonomial n e) ms

-- Each exponent of the vectors is below the bound.
abbrev pub AllBelow : ℕ → List (List ℕ) → Type 0
AllBelow bound ms = (m : List ℕ) (v : ℕ) → In ms m → slice_index m v < bound

-- w is a member of a list of variables.
abbrev pub Member : List ℕ → ℕ → Type 0
Member [] w = ⊥
Member (v ∷ vs) w = (w ≡ v) ⊎ Member vs w

-- Each variable of the list is one of a site, and has a smaller infinitesimal than those after it.
abbrev pub IsRanked : Sites → List ℕ → Type 0
IsRanked sites [] = Unit {0}
IsRanked sites (v ∷ vs) = (s : ℕ) × Of sites v s × ((w : ℕ) → Member vs w → RanksBefore sites w v) × IsRanked sites vs

-- vs are all variables of sites, by rising infinitesimal, and each is one of the first n.
pub record IsRanking (n : ℕ) (sites : Sites) (vs : List ℕ) : Type 0 where
  pub ranked : IsRanked sites vs
  pub all : (v s : ℕ) → Of sites v s → Member vs v
  pub below : (v : ℕ) → Member vs v → v < n

-- ---- the walk
-- What was listed, and whether the cut ended it.
abbrev pub Found : Type 0
Found = List (List ℕ) × Bool

-- The vectors whose exponent of v is at least e.
abbrev pub at_least : ℕ → ℕ → List (List ℕ) → List (List ℕ)
at_least v e [] = []
at_least v e (m ∷ ms) = if leb e (slice_index m v) then (m ∷ at_least v e ms) else at_least v e ms

-- Are all the same vector as a?
abbrev pub all_same : List (List ℕ) → List ℕ → Bool
all_same [] a = true
all_same (m ∷ ms) a = same_vector m a && all_same ms a

-- One list before another, unless the cut ended the first.
abbrev pub before : Found → Found → Found
before r s = if r.1 then r else (r.0 ++ s.0, s.1)

-- Nothing, where there are no vectors.
abbrev pub unless_none : List (List ℕ) → Found → Found
unless_none [] r = ([], false)
unless_none (m ∷ ms) r = r

-- The exponents e, e + 1, .. of v in turn, at most k of them, each with what go lists for it.
abbrev pub steps : (List (List ℕ) → List ℕ → Found) → ℕ → List (List ℕ) → List ℕ → ℕ → ℕ → Found
steps go v ms p zero e = ([], false)
steps go v ms p (suc k) e = unless_none (at_least v e ms) (before (go (at_least v e ms) (set p v e)) (steps go v ms p k (suc e)))

-- The vectors that ms cover and that are p but for the variables vs, in order, up to the cut; all exponents are below the bound.
abbrev pub walk : ℕ → List ℕ → List (List ℕ) → List ℕ → Found
walk bound [] ms p = unless_none ms (p ∷ [], all_same ms p)
walk bound (v ∷ vs) ms p = steps (walk bound vs) v ms p bound 0
