-- The weights of all nodes, and the values that fit.
use Rattle.std.specs.Prelude.{◌≡◌, ℕ, ◌≤◌, ◌<◌, ◌++◌, ℤ, unsigned_abs, List, [], ◌∷◌}
use Rattle.ln_base.specs.declared.span.Span.{Span}
use Rattle.ln_algebra.specs.Tree.{Tree, Num, Input, Name, Neg, Add, Sub, Mul, Pow}
use Rattle.ln_tree.specs.declared.shape.VarInfo.{VarInfo}
use Rattle.ln_tree.specs.Formula.{Formula, FNum, FInput, FName, FNeg, FAdd, FSub, FMul, FPow, tree}
pub use Rattle.ln_interval.specs.Range.{most}
use Rattle.ln_bound.specs.Value.{power, value, weight_over, weights}

-- the weight of a formula over variables, after lets of these weights
abbrev pub weight_of : List VarInfo → List ℕ → Formula → ℕ
weight_of vars lets f = weight_over (weights vars) lets (tree vars f)

-- the nodes of a formula with their weights, in order of evaluation: left operand, right operand, node
abbrev pub weighed : List VarInfo → List ℕ → Formula → List (Span × ℕ)
weighed vars lets (FNum at c) = (at, weight_of vars lets (FNum at c)) ∷ []
weighed vars lets (FInput at a c) = (at, weight_of vars lets (FInput at a c)) ∷ []
weighed vars lets (FName at j) = (at, weight_of vars lets (FName at j)) ∷ []
weighed vars lets (FNeg at e) = weighed vars lets e ++ (at, weight_of vars lets (FNeg at e)) ∷ []
weighed vars lets (FAdd at e f) = weighed vars lets e ++ weighed vars lets f ++ (at, weight_of vars lets (FAdd at e f)) ∷ []
weighed vars lets (FSub at e f) = weighed vars lets e ++ weighed vars lets f ++ (at, weight_of vars lets (FSub at e f)) ∷ []
weighed vars lets (FMul at e f) = weighed vars lets e ++ weighed vars lets f ++ (at, weight_of vars lets (FMul at e f)) ∷ []
weighed vars lets (FPow at e n) = weighed vars lets e ++ (at, weight_of vars lets (FPow at e n)) ∷ []

-- the weights of lets, each over the lets before it, after these
abbrev pub let_weights : List VarInfo → List ℕ → List Formula → List ℕ
let_weights vars done [] = done
let_weights vars done (f ∷ fs) = let_weights vars (done ++ weight_of vars done f ∷ []) fs

-- the nodes of lets with their weights
abbrev pub weighed_lets : List VarInfo → List ℕ → List Formula → List (Span × ℕ)
weighed_lets vars done [] = []
weighed_lets vars done (f ∷ fs) = weighed vars done f ++ weighed_lets vars (done ++ weight_of vars done f ∷ []) fs

-- the nodes of a predicate with their weights: the lets in order of the text, then the root
abbrev pub weighed_pred : List VarInfo → List Formula → Formula → List (Span × ℕ)
weighed_pred vars lets root = weighed_lets vars [] lets ++ weighed vars (let_weights vars [] lets) root

-- no node's weight is too large
abbrev pub AreLight : List (Span × ℕ) → Type 0
AreLight [] = Unit {0}
AreLight (n ∷ ns) = (n.1 ≤ most) × AreLight ns

-- the first node whose weight is too large, in order of evaluation
pub record IsBoundFault (nodes : List (Span × ℕ)) (at : Span) : Type 0 where
  pub before : List (Span × ℕ)
  pub weight : ℕ
  pub after : List (Span × ℕ)
  pub stands : nodes ≡ before ++ (at, weight) ∷ after
  pub light : AreLight before
  pub heavy : most < weight

-- the value of each node fits 128 bits, and so do the lower powers on the way to a power
abbrev pub ValuesFit : (ℕ → ℤ) → List ℤ → Tree → Type 0
ValuesFit x lets (Num c) = unsigned_abs c ≤ most
ValuesFit x lets (Input v) = unsigned_abs (x v) ≤ most
ValuesFit x lets (Name j) = unsigned_abs (value x lets (Name j)) ≤ most
ValuesFit x lets (Neg e) = ValuesFit x lets e × (unsigned_abs (value x lets (Neg e)) ≤ most)
ValuesFit x lets (Add e f) = ValuesFit x lets e × ValuesFit x lets f × (unsigned_abs (value x lets (Add e f)) ≤ most)
ValuesFit x lets (Sub e f) = ValuesFit x lets e × ValuesFit x lets f × (unsigned_abs (value x lets (Sub e f)) ≤ most)
ValuesFit x lets (Mul e f) = ValuesFit x lets e × ValuesFit x lets f × (unsigned_abs (value x lets (Mul e f)) ≤ most)
ValuesFit x lets (Pow e n) = ValuesFit x lets e × ((k : ℕ) → k ≤ n → unsigned_abs (power (value x lets e) k) ≤ most)

-- the values of lets, each over the lets before it, after these
abbrev pub let_values : (ℕ → ℤ) → List ℤ → List Tree → List ℤ
let_values x done [] = done
let_values x done (t ∷ ts) = let_values x (done ++ value x done t ∷ []) ts

-- the values of lets fit, each over the lets before it
abbrev pub LetsFit : (ℕ → ℤ) → List ℤ → List Tree → Type 0
LetsFit x done [] = Unit {0}
LetsFit x done (t ∷ ts) = ValuesFit x done t × LetsFit x (done ++ value x done t ∷ []) ts
