-- The laws of both orders of infinitesimals: of first vectors, signs, stages and products.
use Rattle.std.specs.Prelude.{◌≡◌, ◌≢◌, ℕ, ◌<◌, ℤ, pos, IsTrue, List, ◌∷◌, is_some, map, length}
use Rattle.ln_algebra.specs.Vector.{plus, sum_of}
use Rattle.ln_algebra.specs.Coefficient.{product_at}
use Rattle.ln_algebra.specs.Earlier.{IndicesDiffer, IsOver, Sites}
use Rattle.ln_algebra.specs.Orders.{Before, IsAdmissible, Rank}
use Rattle.ln_algebra.specs.Product.{AreFirsts, AreSigns, OneIsZero, OneLacksFirst, multiplied_numbers}
use Rattle.ln_algebra.specs.Sign.{IsFirstIn, IsSignIn, perturbed, sign_along}
use Rattle.ln_algebra.specs.Stage.{IsMonomial, IsStageIn, IsStageListIn}
use Rattle.ln_algebra.specs.Tree.{InputsBelow, Tree, multiplied}

-- Both are orders of infinitesimals.
abbrev pub BothAreAdmissible : Type 0
BothAreAdmissible = (rank : Rank) (n : ℕ) (sites : Sites) → IndicesDiffer sites → IsAdmissible n sites (Before rank sites)

-- What is kept by sums is kept by differences too.
abbrev pub SumsCancel : Type 0
SumsCancel =
    (rank : Rank) (n : ℕ) (sites : Sites) (a b c : List ℕ) → IndicesDiffer sites → IsOver n sites a → IsOver n sites b → length c ≡ n →
    Before rank sites (plus a c) (plus b c) → Before rank sites a b

-- There is at most one first vector.
abbrev pub FirstIsUniqueIn : Type 0
FirstIsUniqueIn =
    (rank : Rank) (n : ℕ) (sites : Sites) (x : ℕ → ℤ) (e : Tree) (a b : List ℕ) → IndicesDiffer sites →
    IsFirstIn (Before rank sites) n sites x e a → IsFirstIn (Before rank sites) n sites x e b → a ≡ b

-- There is at most one sign.
abbrev pub SignIsUniqueIn : Type 0
SignIsUniqueIn =
    (rank : Rank) (n : ℕ) (sites : Sites) (x : ℕ → ℤ) (e : Tree) (s t : ℤ) → IndicesDiffer sites →
    IsSignIn (Before rank sites) n sites x e s → IsSignIn (Before rank sites) n sites x e t → s ≡ t

-- There is at most one stage list.
abbrev pub StageListIsUniqueIn : Type 0
StageListIsUniqueIn =
    (rank : Rank) (n : ℕ) (sites : Sites) (e : Tree) (xs ys : List (List ℕ)) → IndicesDiffer sites →
    IsStageListIn (Before rank sites) n sites e xs → IsStageListIn (Before rank sites) n sites e ys → xs ≡ ys

-- Where any coefficient isn't 0 there is a first vector.
abbrev pub NonzeroHasFirstIn : Type 0
NonzeroHasFirstIn =
    (rank : Rank) (n : ℕ) (sites : Sites) (e : Tree) (x : ℕ → ℤ) (b : List ℕ) → IndicesDiffer sites →
    IsOver n sites b → perturbed sites x e b ≢ pos 0 → (a : List ℕ) × IsFirstIn (Before rank sites) n sites x e a

-- So without params there is one on every row.
abbrev pub WithoutParamsThereIsFirstIn : Type 0
WithoutParamsThereIsFirstIn =
    (rank : Rank) (n : ℕ) (sites : Sites) (e : Tree) (x : ℕ → ℤ) (m : List ℕ) → InputsBelow n e → IndicesDiffer sites →
    ((v : ℕ) → v < n → IsTrue (is_some (sites.site v))) → IsMonomial n e m →
    (a : List ℕ) × IsFirstIn (Before rank sites) n sites x e a

-- The cut loses nothing: the first vector, if there is one, is a stage.
abbrev pub FirstIsStageIn : Type 0
FirstIsStageIn =
    (rank : Rank) (n : ℕ) (sites : Sites) (e : Tree) (x : ℕ → ℤ) (a : List ℕ) → InputsBelow n e →
    IsFirstIn (Before rank sites) n sites x e a → IsStageIn (Before rank sites) n sites e a

-- The first stage whose coefficient isn't 0 is the first vector.
abbrev pub FirstNonzeroStageIsFirstIn : Type 0
FirstNonzeroStageIsFirstIn =
    (rank : Rank) (n : ℕ) (sites : Sites) (e : Tree) (x : ℕ → ℤ) (a : List ℕ) → InputsBelow n e → IndicesDiffer sites →
    IsStageIn (Before rank sites) n sites e a → perturbed sites x e a ≢ pos 0 →
    ((b : List ℕ) → IsStageIn (Before rank sites) n sites e b → Before rank sites b a → perturbed sites x e b ≡ pos 0) →
    IsFirstIn (Before rank sites) n sites x e a

-- Where the coefficient of every stage is 0 there is no first vector.
abbrev pub ZeroStagesHaveNoFirstIn : Type 0
ZeroStagesHaveNoFirstIn =
    (rank : Rank) (n : ℕ) (sites : Sites) (e : Tree) (x : ℕ → ℤ) → InputsBelow n e →
    ((a : List ℕ) → IsStageIn (Before rank sites) n sites e a → perturbed sites x e a ≡ pos 0) →
    (a : List ℕ) → IsFirstIn (Before rank sites) n sites x e a → ⊥

-- The sign found along the stage list is the sign.
abbrev pub SignAlongTheStagesIn : Type 0
SignAlongTheStagesIn =
    (rank : Rank) (n : ℕ) (sites : Sites) (e : Tree) (x : ℕ → ℤ) (list : List (List ℕ)) → InputsBelow n e → IndicesDiffer sites →
    IsStageListIn (Before rank sites) n sites e list → IsSignIn (Before rank sites) n sites x e (sign_along sites x e list)

-- Signs of products: the first vector of a product is the sum of those of the factors, and its coefficient there the product of theirs.
abbrev pub FirstOfProduct : Type 0
FirstOfProduct =
    (rank : Rank) (n : ℕ) (sites : Sites) (x : ℕ → ℤ) (e : Tree) (es : List Tree) (as' : List (List ℕ)) → IndicesDiffer sites →
    AreFirsts (Before rank sites) n sites x (e ∷ es) as' →
    IsFirstIn (Before rank sites) n sites x (multiplied e es) (sum_of n as')
    × (perturbed sites x (multiplied e es) (sum_of n as') ≡ product_at (map (perturbed sites x) (e ∷ es)) as')

-- Where a factor has none, the product has none.
abbrev pub NoFirstOfProduct : Type 0
NoFirstOfProduct =
    (rank : Rank) (n : ℕ) (sites : Sites) (x : ℕ → ℤ) (e : Tree) (es : List Tree) (a : List ℕ) → IndicesDiffer sites →
    OneLacksFirst (Before rank sites) n sites x (e ∷ es) → IsFirstIn (Before rank sites) n sites x (multiplied e es) a → ⊥

-- So each first vector of a product is such a sum.
abbrev pub FirstOfProductIsSum : Type 0
FirstOfProductIsSum =
    (rank : Rank) (n : ℕ) (sites : Sites) (x : ℕ → ℤ) (e : Tree) (es : List Tree) (a : List ℕ) → IndicesDiffer sites →
    IsFirstIn (Before rank sites) n sites x (multiplied e es) a →
    (as' : List (List ℕ)) × AreFirsts (Before rank sites) n sites x (e ∷ es) as' × (a ≡ sum_of n as')

-- The sign of the product is the product of the signs.
abbrev pub SignOfProduct : Type 0
SignOfProduct =
    (rank : Rank) (n : ℕ) (sites : Sites) (x : ℕ → ℤ) (e : Tree) (es : List Tree) (ss : List ℤ) → IndicesDiffer sites →
    AreSigns (Before rank sites) n sites x (e ∷ es) ss →
    IsSignIn (Before rank sites) n sites x (multiplied e es) (multiplied_numbers ss)

-- A product of numbers is 0 exactly where one of them is.
abbrev pub ZeroProducts : Type 0
ZeroProducts = (zs : List ℤ) → (OneIsZero zs → multiplied_numbers zs ≡ pos 0) × (multiplied_numbers zs ≡ pos 0 → OneIsZero zs)
