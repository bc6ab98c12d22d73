-- The laws of what a trace says of one row.
use Rattle.std.specs.Prelude.{◌≡◌, ◌≢◌, ◌↔◌, ◌⊎◌, ℕ, ℤ, List, [], ◌∷◌}
use Rattle.ln_algebra.specs.Earlier.{Earlier, IndicesDiffer, IsInOrder, IsOver, Sites}
use Rattle.ln_algebra.specs.Sign.{IsPerturbedSign, sign_along}
use Rattle.ln_algebra.specs.Stage.{IsStage, IsStageList}
use Rattle.ln_algebra.specs.Tree.{InputsBelow, Tree}
use Rattle.ln_algebra.specs.Vector.{In}
use Rattle.ln_trace.specs.Told.{AreTold, IsSigned, Leads, Stood, up_to_first, vectors_in}

-- the sign that may follow vectors that are written by the rules is the perturbed sign
abbrev pub ToldSignsArePerturbed : Type 0
ToldSignsArePerturbed =
    (n : ℕ) (sites : Sites) (x : ℕ → ℤ) (e : Tree) (stood : Stood) (s : ℤ) → InputsBelow n e → IndicesDiffer sites →
    AreTold n sites x e stood → IsSigned n sites e stood s → IsPerturbedSign n sites x e s

-- a stage list with its coefficients, up to and with the first that isn't 0, and the sign along it, go by the rules
abbrev pub StageListsAreTold : Type 0
StageListsAreTold =
    (n : ℕ) (sites : Sites) (x : ℕ → ℤ) (e : Tree) (list : List (List ℕ)) → IndicesDiffer sites → IsStageList n sites e list →
    list ≢ [] → (q : Stood) × Leads n sites x e [] (up_to_first sites x e list) q × IsSigned n sites e q (sign_along sites x e list)

-- ---- the members that haven't stood, as a list
-- these are the stages that haven't stood, in order; each that stood is earlier than they
pub record IsLeft (n : ℕ) (sites : Sites) (e : Tree) (stood : Stood) (left : List (List ℕ)) : Type 0 where
  pub stages : (b : List ℕ) → In left b → IsStage n sites e b
  pub all : (b : List ℕ) → IsStage n sites e b → In (vectors_in stood) b ⊎ In left b
  pub in_order : IsInOrder sites left
  pub apart : (b c : List ℕ) → In (vectors_in stood) b → In left c → Earlier sites b c

-- the first of them isn't earlier than a
abbrev pub NoneIsEarlier : Sites → List (List ℕ) → List ℕ → Type 0
NoneIsEarlier sites [] a = Unit {0}
NoneIsEarlier sites (c ∷ left) a = Earlier sites c a → ⊥

-- at a row's begin all stages remain
abbrev pub AllAreLeft : Type 0
AllAreLeft = (n : ℕ) (sites : Sites) (e : Tree) (list : List (List ℕ)) → IsStageList n sites e list → IsLeft n sites e [] list

-- so the first of them alone tells whether each stage that is earlier than a stood
abbrev pub FirstLeftTells : Type 0
FirstLeftTells =
    (n : ℕ) (sites : Sites) (e : Tree) (stood : Stood) (left : List (List ℕ)) (a : List ℕ) → IndicesDiffer sites → IsLeft n sites e stood left →
    NoneIsEarlier sites left a ↔ ((b : List ℕ) → IsStage n sites e b → Earlier sites b a → In (vectors_in stood) b)

-- none remains exactly where each stage stood
abbrev pub NoneLeftTells : Type 0
NoneLeftTells =
    (n : ℕ) (sites : Sites) (e : Tree) (stood : Stood) (left : List (List ℕ)) → IsLeft n sites e stood left →
    (left ≡ []) ↔ ((b : List ℕ) → IsStage n sites e b → In (vectors_in stood) b)

-- after a they are those after it, where it was the first of them
abbrev pub FirstLeftStands : Type 0
FirstLeftStands =
    (n : ℕ) (sites : Sites) (e : Tree) (stood : Stood) (left : List (List ℕ)) (a : List ℕ) (z : ℤ) → IsLeft n sites e stood (a ∷ left) →
    IsLeft n sites e ((a, z) ∷ stood) left

-- and all of them, where it wasn't and none is earlier than it
abbrev pub OtherStands : Type 0
OtherStands =
    (n : ℕ) (sites : Sites) (e : Tree) (stood : Stood) (left : List (List ℕ)) (a : List ℕ) (z : ℤ) → IndicesDiffer sites → IsOver n sites a →
    IsLeft n sites e stood left → NoneIsEarlier sites left a → (In left a → ⊥) → IsLeft n sites e ((a, z) ∷ stood) left
