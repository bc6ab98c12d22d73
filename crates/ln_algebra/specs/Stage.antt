-- Stages: the vectors at which a coefficient has to be looked at, one after the other, and where that may end.
-- Source: the staged evaluation of Simulation of Simplicity (Edelsbrunner and Mücke 1990), which ends at the first coefficient
-- that is a constant.
use Rattle.std.specs.Prelude.{◌≡◌, ◌≢◌, ℕ, true, pos, List, length}
use Rattle.ln_algebra.specs.Vector.{In, covers}
use Rattle.ln_algebra.specs.Coefficient.{normal_coefficient}
use Rattle.ln_algebra.specs.Earlier.{Sites, Earlier, IsOver, IsSortedIn}
use Rattle.ln_algebra.specs.Tree.{Tree}

-- ---- over any set of vectors as monomials
-- Some monomial covers a: the scaled derivative by a isn't 0.
abbrev pub CoveredBy : (List ℕ → Type 0) → List ℕ → Type 0
CoveredBy monomial a = (m : List ℕ) × monomial m × (covers m a ≡ true)

-- The cut: a is a monomial, and no other covers it. The scaled derivative by a is a constant that isn't 0.
pub record IsCutOf (mono : List ℕ → Type 0) (a : List ℕ) : Type 0 where
  pub monomial : mono a
  pub only : (m : List ℕ) → mono m → covers m a ≡ true → m ≡ a

-- a is a stage: a vector over the variables of sites that some monomial covers, with no cut before a in this order.
pub record IsStageBy (before : List ℕ → List ℕ → Type 0) (n : ℕ) (sites : Sites) (monomial : List ℕ → Type 0) (a : List ℕ) : Type 0 where
  pub over : IsOver n sites a
  pub covered : CoveredBy monomial a
  pub before_cut : (b : List ℕ) → IsOver n sites b → IsCutOf monomial b → before b a → ⊥

-- The stage list: all stages, each before those that follow it in this order, and so each once.
pub record IsStageListBy (before : List ℕ → List ℕ → Type 0) (n : ℕ) (sites : Sites) (monomial : List ℕ → Type 0)
    (list : List (List ℕ)) : Type 0 where
  pub stages : (a : List ℕ) → In list a → IsStageBy before n sites monomial a
  pub all : (a : List ℕ) → IsStageBy before n sites monomial a → In list a
  pub in_order : IsSortedIn before list

-- ---- of an expression
-- m is a monomial of the normal polynomial of e, over n variables.
pub record IsMonomial (n : ℕ) (e : Tree) (m : List ℕ) : Type 0 where
  pub size : length m ≡ n
  pub nonzero : normal_coefficient e m ≢ pos 0

-- Some monomial of the normal polynomial covers a.
abbrev pub Covered : ℕ → Tree → List ℕ → Type 0
Covered n e a = CoveredBy (IsMonomial n e) a

-- The cut of the normal polynomial.
abbrev pub IsLast : ℕ → Tree → List ℕ → Type 0
IsLast n e a = IsCutOf (IsMonomial n e) a

-- A stage of the normal polynomial.
abbrev pub IsStageIn : (List ℕ → List ℕ → Type 0) → ℕ → Sites → Tree → List ℕ → Type 0
IsStageIn before n sites e a = IsStageBy before n sites (IsMonomial n e) a

-- The same by the smallest infinitesimal in which two vectors differ.
abbrev pub IsStage : ℕ → Sites → Tree → List ℕ → Type 0
IsStage n sites e a = IsStageIn (Earlier sites) n sites e a

-- The stage list of the normal polynomial.
abbrev pub IsStageListIn : (List ℕ → List ℕ → Type 0) → ℕ → Sites → Tree → List (List ℕ) → Type 0
IsStageListIn before n sites e list = IsStageListBy before n sites (IsMonomial n e) list

-- The same by the smallest infinitesimal in which two vectors differ.
abbrev pub IsStageList : ℕ → Sites → Tree → List (List ℕ) → Type 0
IsStageList n sites e list = IsStageListIn (Earlier sites) n sites e list
