-- When an expression may be expanded in 128 bits.
use Rattle.std.specs.Prelude.{All, ℕ, ◌+◌, ◌*◌, ◌<◌, ◌≤◌, ◌^◌, List, [], ◌∷◌, ◌++◌, length}
use Rattle.ln_base.specs.declared.span.Span.{Span}
use Rattle.ln_algebra.specs.Tree.{InputsBelow, Tree, Num, Input, Name, Neg, Add, Sub, Mul, Pow, inlined}
use Rattle.ln_algebra.specs.Weights.{weight}
use Rattle.ln_bound.specs.Light.{most}
use Rattle.ln_bound.specs.declared.fitted.Two.{Two}
use Rattle.ln_bound.specs.declared.fitted.Two.TheVariants.{Plus, Minus, Times}
use Rattle.ln_poly.specs.Rows.{PowersFit}
use Rattle.ln_poly.specs.Sparse.{Sparse, size_of}
use Rattle.ln_poly.specs.Expansion.{HaveFewTerms, IsNormal}

-- a closed tree over n variables, whose weight is at most 2^127 - 1
pub record IsLight (n : ℕ) (w : ℕ → ℕ) (e : Tree) : Type 0 where
  pub inputs : InputsBelow n e
  pub light : weight w e ≤ most

-- at each node of the expression, with these closed lets in place of their names
abbrev pub AreLight : ℕ → (ℕ → ℕ) → List Tree → Tree → Type 0
AreLight n w lets (Num c) = IsLight n w (inlined lets (Num c))
AreLight n w lets (Input v) = IsLight n w (inlined lets (Input v))
AreLight n w lets (Name j) = IsLight n w (inlined lets (Name j))
AreLight n w lets (Neg e) = AreLight n w lets e × IsLight n w (inlined lets (Neg e))
AreLight n w lets (Add e f) = AreLight n w lets e × AreLight n w lets f × IsLight n w (inlined lets (Add e f))
AreLight n w lets (Sub e f) = AreLight n w lets e × AreLight n w lets f × IsLight n w (inlined lets (Sub e f))
AreLight n w lets (Mul e f) = AreLight n w lets e × AreLight n w lets f × IsLight n w (inlined lets (Mul e f))
AreLight n w lets (Pow e k) = AreLight n w lets e × IsLight n w (inlined lets (Pow e k))

-- so in each let, after these closed lets
abbrev pub LetsAreLight : ℕ → (ℕ → ℕ) → List Tree → List Tree → Type 0
LetsAreLight n w done [] = Unit {0}
LetsAreLight n w done (e ∷ es) = AreLight n w done e × LetsAreLight n w (done ++ inlined done e ∷ []) es

-- each is the normal polynomial of its tree
abbrev pub AreNormal : ℕ → List Tree → List Sparse → Type 0
AreNormal n [] [] = Unit {0}
AreNormal n [] (f ∷ fs) = ⊥
AreNormal n (e ∷ es) [] = ⊥
AreNormal n (e ∷ es) (f ∷ fs) = IsNormal n e f × AreNormal n es fs

-- f is the normal polynomial of e and has at most 1,024 terms, and none of the nodes that were expanded for it has too many
pub record Expands (n : ℕ) (nodes : List (Span × Tree)) (e : Tree) (f : Sparse) : Type 0 where
  pub normal : IsNormal n e f
  pub terms : length f ≤ 1024
  pub few : HaveFewTerms n nodes

-- the k-th power of the tree whose normal polynomial f is weighs at most 2^127 - 1; each variable weighs at least 2
pub record HasPower (f : Sparse) (k : ℕ) : Type 0 where
  pub n : ℕ
  pub w : ℕ → ℕ
  pub tree : Tree
  pub two : (v : ℕ) → v < n → 2 ≤ w v
  pub inputs : InputsBelow n tree
  pub light : weight w tree ^ k ≤ most
  pub normal : IsNormal n tree f

-- there is room for the sum, the difference or the product of two polynomials
abbrev pub HaveRoom : Two → Sparse → Sparse → Type 0
HaveRoom Plus f g = size_of f + size_of g < 2 ^ 127
HaveRoom Minus f g = size_of f + size_of g < 2 ^ 127
HaveRoom Times f g = (size_of f * size_of g < 2 ^ 127) × All (λ s. PowersFit s g) f
