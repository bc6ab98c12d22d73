-- The expansion of a predicate: its normal polynomials, the first node that has too many terms, and the root that is 0.
use Rattle.std.specs.Prelude.{◌≡◌, ℕ, ◌≤◌, ◌<◌, zero, suc, pos, List, [], ◌∷◌, ◌++◌, length, map}
use Rattle.std.specs.List.{AllByRecursion}
use Rattle.ln_base.specs.declared.span.Span.{Span}
use Rattle.ln_algebra.specs.Coefficient.{normal_coefficient}
use Rattle.ln_algebra.specs.Stage.{IsMonomial}
use Rattle.ln_algebra.specs.Terms.{IsNormalOf}
use Rattle.ln_algebra.specs.Tree.{Tree, Pow, degree_of, inlined, inlined_after}
use Rattle.ln_algebra.specs.Vector.{In, total_degree}
use Rattle.ln_tree.specs.declared.shape.VarInfo.{VarInfo}
use Rattle.ln_tree.specs.Formula.{Formula, FNum, FInput, FName, FNeg, FAdd, FSub, FMul, FPow, tree}
use Rattle.ln_poly.specs.Sparse.{AreBelow, IsPoly, Sparse, terms_of}

-- f is the normal polynomial of the closed tree e over n variables
pub record IsNormal (n : ℕ) (e : Tree) (f : Sparse) : Type 0 where
  pub normal : IsNormalOf n e (terms_of n f)
  pub form : IsPoly f
  pub below : AreBelow n f

-- there is one
abbrev pub HasNormal : ℕ → Tree → Type 0
HasNormal n e = (f : Sparse) × IsNormal n e f

-- no vector occurs twice in the list
abbrev pub AreDistinct : List (List ℕ) → Type 0
AreDistinct [] = Unit {0}
AreDistinct (m ∷ ms) = (In ms m → ⊥) × AreDistinct ms

-- the normal polynomial of e has more than 1,024 terms: that many different vectors are monomials of it
pub record HasTooManyTerms (n : ℕ) (e : Tree) : Type 0 where
  pub vectors : List (List ℕ)
  pub distinct : AreDistinct vectors
  pub monomials : (m : List ℕ) → In vectors m → IsMonomial n e m
  pub many : 1024 < length vectors

-- the lets of a predicate in order, each with the lets before it in place of their names
abbrev pub closed_lets : List VarInfo → List Formula → List Tree
closed_lets vars lets = inlined_after [] (map (tree vars) lets)

-- the root of a predicate with its lets in place of their names
abbrev pub closed_root : List VarInfo → List Formula → Formula → Tree
closed_root vars lets root = inlined (closed_lets vars lets) (tree vars root)

-- the powers e^1 to e^n
abbrev pub powers : Span → Tree → ℕ → List (Span × Tree)
powers at e zero = []
powers at e (suc n) = powers at e n ++ (at, Pow e (suc n)) ∷ []

-- what is expanded of a formula after closed lets, and where: each node in order of evaluation, and for a power e^n each of e^1 to e^n
abbrev pub expanded : List VarInfo → List Tree → Formula → List (Span × Tree)
expanded vars lets (FNum at c) = (at, inlined lets (tree vars (FNum at c))) ∷ []
expanded vars lets (FInput at a c) = (at, inlined lets (tree vars (FInput at a c))) ∷ []
expanded vars lets (FName at j) = (at, inlined lets (tree vars (FName at j))) ∷ []
expanded vars lets (FNeg at e) = expanded vars lets e ++ (at, inlined lets (tree vars (FNeg at e))) ∷ []
expanded vars lets (FAdd at e f) = expanded vars lets e ++ expanded vars lets f ++ (at, inlined lets (tree vars (FAdd at e f))) ∷ []
expanded vars lets (FSub at e f) = expanded vars lets e ++ expanded vars lets f ++ (at, inlined lets (tree vars (FSub at e f))) ∷ []
expanded vars lets (FMul at e f) = expanded vars lets e ++ expanded vars lets f ++ (at, inlined lets (tree vars (FMul at e f))) ∷ []
expanded vars lets (FPow at e n) = expanded vars lets e ++ powers at (inlined lets (tree vars e)) n

-- the same of lets, each after the closed lets before it
abbrev pub expanded_lets : List VarInfo → List Tree → List Formula → List (Span × Tree)
expanded_lets vars done [] = []
expanded_lets vars done (f ∷ fs) = expanded vars done f ++ expanded_lets vars (done ++ inlined done (tree vars f) ∷ []) fs

-- the same of a predicate: the lets in order of the text, then the root
abbrev pub expanded_pred : List VarInfo → List Formula → Formula → List (Span × Tree)
expanded_pred vars lets root = expanded_lets vars [] lets ++ expanded vars (closed_lets vars lets) root

-- none of them has too many terms
abbrev pub HaveFewTerms : ℕ → List (Span × Tree) → Type 0
HaveFewTerms n xs = AllByRecursion (λ x. HasTooManyTerms n x.1 → ⊥) xs

-- the first of them that has too many terms
pub record IsTermsFault (n : ℕ) (nodes : List (Span × Tree)) (at : Span) : Type 0 where
  pub before : List (Span × Tree)
  pub node : Tree
  pub after : List (Span × Tree)
  pub stands : nodes ≡ before ++ (at, node) ∷ after
  pub few : HaveFewTerms n before
  pub many : HasTooManyTerms n node

-- the root's normal coefficients are 0 at each vector up to its syntactic degree: it is 0 however it is perturbed
abbrev pub IsZeroFault : ℕ → Tree → Type 0
IsZeroFault n e = (m : List ℕ) → length m ≡ n → total_degree m ≤ degree_of e → normal_coefficient e m ≡ pos 0
