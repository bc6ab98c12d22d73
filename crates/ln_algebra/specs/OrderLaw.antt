-- The laws of the order.
use Rattle.std.specs.Prelude.{◌≡◌, ℕ, ◌⊎◌, ℤ, pos, List, length}
use Rattle.ln_algebra.specs.Vector.{In, how_many, plus, same_vector, zeros}
use Rattle.ln_algebra.specs.Earlier.{Earlier, IndicesDiffer, IsInOrder, IsOver, Sites}
use Rattle.ln_algebra.specs.Sign.{IsFirst, IsPerturbedSign}
use Rattle.ln_algebra.specs.Stage.{IsStageList}
use Rattle.ln_algebra.specs.Tree.{Tree}

-- No vector is earlier than itself.
abbrev pub EarlierIsIrreflexive : Type 0
EarlierIsIrreflexive = (sites : Sites) (a : List ℕ) → Earlier sites a a → ⊥

-- What is earlier than an earlier vector is earlier.
abbrev pub EarlierIsTransitive : Type 0
EarlierIsTransitive =
    (sites : Sites) (a b c : List ℕ) → IndicesDiffer sites →
    Earlier sites a b → Earlier sites b c → Earlier sites a c

-- Of two vectors over the variables of sites that differ, one is earlier.
abbrev pub EarlierIsTotal : Type 0
EarlierIsTotal =
    (n : ℕ) (sites : Sites) (a b : List ℕ) → IndicesDiffer sites → IsOver n sites a → IsOver n sites b →
    (a ≡ b) ⊎ (Earlier sites a b ⊎ Earlier sites b a)

-- The order is kept where one vector is added to both sides: it is a monomial order.
abbrev pub EarlierIsKeptBySums : Type 0
EarlierIsKeptBySums =
    (sites : Sites) (a b c : List ℕ) → length a ≡ length c → length b ≡ length c →
    Earlier sites a b → Earlier sites (plus a c) (plus b c)

-- The vector of zeros is the earliest.
abbrev pub ZeroIsEarliest : Type 0
ZeroIsEarliest =
    (n : ℕ) (sites : Sites) (a : List ℕ) → IndicesDiffer sites → IsOver n sites a →
    (a ≡ zeros n) ⊎ Earlier sites (zeros n) a

-- There is at most one first vector.
abbrev pub FirstIsUnique : Type 0
FirstIsUnique =
    (n : ℕ) (sites : Sites) (x : ℕ → ℤ) (e : Tree) (a b : List ℕ) → IndicesDiffer sites →
    IsFirst n sites x e a → IsFirst n sites x e b → a ≡ b

-- There is at most one perturbed sign.
abbrev pub PerturbedSignIsUnique : Type 0
PerturbedSignIsUnique =
    (n : ℕ) (sites : Sites) (x : ℕ → ℤ) (e : Tree) (s t : ℤ) → IndicesDiffer sites →
    IsPerturbedSign n sites x e s → IsPerturbedSign n sites x e t → s ≡ t

-- There is at most one stage list.
abbrev pub StageListIsUnique : Type 0
StageListIsUnique =
    (n : ℕ) (sites : Sites) (e : Tree) (xs ys : List (List ℕ)) → IndicesDiffer sites →
    IsStageList n sites e xs → IsStageList n sites e ys → xs ≡ ys

-- A list in order has each of its members once.
abbrev pub InOrderIsOnce : Type 0
InOrderIsOnce =
    (sites : Sites) (xs : List (List ℕ)) (a : List ℕ) → IsInOrder sites xs → In xs a →
    how_many (λ b. same_vector b a) xs ≡ pos 1
