-- The laws of stages and of the cut.
use Rattle.std.specs.Prelude.{◌≡◌, ◌≢◌, ℕ, ◌<◌, ℤ, pos, IsTrue, List, is_some}
use Rattle.ln_algebra.specs.Vector.{zeros}
use Rattle.ln_algebra.specs.Coefficient.{normal_coefficient}
use Rattle.ln_algebra.specs.Earlier.{Earlier, IndicesDiffer, IsOver, Sites}
use Rattle.ln_algebra.specs.Sign.{IsFirst, IsPerturbedSign, perturbed, sign_along}
use Rattle.ln_algebra.specs.Stage.{Covered, IsLast, IsMonomial, IsStage, IsStageList}
use Rattle.ln_algebra.specs.Tree.{InputsBelow, Tree}
use Rattle.ln_algebra.specs.Walk.{AllBelow, AreMonomials, IsRanking, walk}

-- A vector that no monomial covers has coefficient 0 on every row.
abbrev pub UncoveredIsZero : Type 0
UncoveredIsZero =
    (n : ℕ) (sites : Sites) (e : Tree) (x : ℕ → ℤ) (a : List ℕ) → InputsBelow n e → IsOver n sites a →
    (Covered n e a → ⊥) → perturbed sites x e a ≡ pos 0

-- At the cut the coefficient is the same on every row: the monomial's own, which isn't 0.
abbrev pub LastIsConstant : Type 0
LastIsConstant =
    (n : ℕ) (sites : Sites) (e : Tree) (x : ℕ → ℤ) (a : List ℕ) → InputsBelow n e → IsOver n sites a →
    IsLast n e a → (perturbed sites x e a ≡ normal_coefficient e a) × (perturbed sites x e a ≢ pos 0)

-- The cut loses nothing: the first vector, if there is one, is a stage.
abbrev pub FirstIsStage : Type 0
FirstIsStage =
    (n : ℕ) (sites : Sites) (e : Tree) (x : ℕ → ℤ) (a : List ℕ) → InputsBelow n e →
    IsFirst n sites x e a → IsStage n sites e a

-- The first stage whose coefficient isn't 0 is the first vector.
abbrev pub FirstNonzeroStageIsFirst : Type 0
FirstNonzeroStageIsFirst =
    (n : ℕ) (sites : Sites) (e : Tree) (x : ℕ → ℤ) (a : List ℕ) → InputsBelow n e → IndicesDiffer sites →
    IsStage n sites e a → perturbed sites x e a ≢ pos 0 →
    ((b : List ℕ) → IsStage n sites e b → Earlier sites b a → perturbed sites x e b ≡ pos 0) →
    IsFirst n sites x e a

-- Where the coefficient of every stage is 0 there is no first vector.
abbrev pub ZeroStagesHaveNoFirst : Type 0
ZeroStagesHaveNoFirst =
    (n : ℕ) (sites : Sites) (e : Tree) (x : ℕ → ℤ) → InputsBelow n e →
    ((a : List ℕ) → IsStage n sites e a → perturbed sites x e a ≡ pos 0) →
    (a : List ℕ) → IsFirst n sites x e a → ⊥

-- The sign found along the stage list is the perturbed sign.
abbrev pub SignAlongTheStages : Type 0
SignAlongTheStages =
    (n : ℕ) (sites : Sites) (e : Tree) (x : ℕ → ℤ) (list : List (List ℕ)) → InputsBelow n e → IndicesDiffer sites →
    IsStageList n sites e list → IsPerturbedSign n sites x e (sign_along sites x e list)

-- Where any coefficient isn't 0, of those over the variables of sites, there is a first vector.
abbrev pub NonzeroHasFirst : Type 0
NonzeroHasFirst =
    (n : ℕ) (sites : Sites) (e : Tree) (x : ℕ → ℤ) (b : List ℕ) → IndicesDiffer sites →
    IsOver n sites b → perturbed sites x e b ≢ pos 0 →
    (a : List ℕ) × IsFirst n sites x e a

-- Without params, where each variable belongs to a site, there always is a first vector, as long as the normal polynomial has any monomial.
abbrev pub WithoutParamsThereIsFirst : Type 0
WithoutParamsThereIsFirst =
    (n : ℕ) (sites : Sites) (e : Tree) (x : ℕ → ℤ) (m : List ℕ) → InputsBelow n e → IndicesDiffer sites →
    ((v : ℕ) → v < n → IsTrue (is_some (sites.site v))) → IsMonomial n e m →
    (a : List ℕ) × IsFirst n sites x e a

-- The depth-first walk with its cut lists exactly the stages, in order, each once.
abbrev pub WalkListsTheStages : Type 0
WalkListsTheStages =
    (n : ℕ) (sites : Sites) (e : Tree) (bound : ℕ) (vs : List ℕ) (ms : List (List ℕ)) →
    IsRanking n sites vs → AreMonomials n e ms → AllBelow bound ms →
    IsStageList n sites e (walk bound vs ms (zeros n)).0
