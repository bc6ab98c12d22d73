-- The nodes of a predicate with their ranges and sizes, and with what is tested of them.
use Rattle.std.specs.Prelude.{ℕ, List, [], ◌∷◌, ◌++◌, map}
use Rattle.ln_base.specs.declared.span.Span.{Span}
use Rattle.ln_algebra.specs.Tree.{Tree, inlined, inlined_after}
use Rattle.ln_tree.specs.declared.shape.VarInfo.{VarInfo}
use Rattle.ln_tree.specs.Formula.{Formula, FNum, FInput, FName, FNeg, FAdd, FSub, FMul, FPow, tree}
use Rattle.ln_interval.specs.Range.{Range}
use Rattle.ln_bound.specs.Ranges.{range_over, size_over, load_over, ranges}

-- the nodes of a formula with what is said of each, in order of evaluation: left operand, right operand, node
abbrev pub nodes_by : {A : Type 0} → (Formula → A) → Formula → List (Span × A)
nodes_by by (FNum at c) = (at, by (FNum at c)) ∷ []
nodes_by by (FInput at a c) = (at, by (FInput at a c)) ∷ []
nodes_by by (FName at j) = (at, by (FName at j)) ∷ []
nodes_by by (FNeg at e) = nodes_by by e ++ (at, by (FNeg at e)) ∷ []
nodes_by by (FAdd at e f) = nodes_by by e ++ nodes_by by f ++ (at, by (FAdd at e f)) ∷ []
nodes_by by (FSub at e f) = nodes_by by e ++ nodes_by by f ++ (at, by (FSub at e f)) ∷ []
nodes_by by (FMul at e f) = nodes_by by e ++ nodes_by by f ++ (at, by (FMul at e f)) ∷ []
nodes_by by (FPow at e n) = nodes_by by e ++ (at, by (FPow at e n)) ∷ []

-- the load of a formula after lets of these ranges and sizes
abbrev pub load_of : List VarInfo → List Range → List ℕ → Formula → ℕ
load_of vars ps ss f = load_over (ranges vars) ps ss (tree vars f)

-- the range and the size of a formula after such lets
abbrev pub measure_of : List VarInfo → List Range → List ℕ → Formula → Range × ℕ
measure_of vars ps ss f = (range_over (ranges vars) ps (tree vars f), size_over ss (tree vars f))

-- the nodes of a formula with their loads
abbrev pub loaded : List VarInfo → List Range → List ℕ → Formula → List (Span × ℕ)
loaded vars ps ss f = nodes_by (load_of vars ps ss) f

-- the nodes of lets with their loads, each over the lets before it
abbrev pub loaded_lets : List VarInfo → List Range → List ℕ → List Formula → List (Span × ℕ)
loaded_lets vars ps ss [] = []
loaded_lets vars ps ss (f ∷ fs) = loaded vars ps ss f ++ loaded_lets vars (ps ++ range_over (ranges vars) ps (tree vars f) ∷ [])
    (ss ++ size_over ss (tree vars f) ∷ []) fs

-- the ranges of lets, each over the lets before it, after these ranges
abbrev pub ranges_of_lets : List VarInfo → List Range → List Formula → List Range
ranges_of_lets vars ps [] = ps
ranges_of_lets vars ps (f ∷ fs) = ranges_of_lets vars (ps ++ range_over (ranges vars) ps (tree vars f) ∷ []) fs

-- the sizes of lets, each over the lets before it, after these sizes
abbrev pub sizes_of_lets : List VarInfo → List ℕ → List Formula → List ℕ
sizes_of_lets vars ss [] = ss
sizes_of_lets vars ss (f ∷ fs) = sizes_of_lets vars (ss ++ size_over ss (tree vars f) ∷ []) fs

-- the nodes of a predicate with their loads: the lets in order of the text, then the root
abbrev pub loaded_pred : List VarInfo → List Formula → Formula → List (Span × ℕ)
loaded_pred vars lets root = loaded_lets vars [] [] lets ++ loaded vars (ranges_of_lets vars [] lets) (sizes_of_lets vars [] lets) root

-- the nodes of a formula with their ranges and sizes
abbrev pub measured : List VarInfo → List Range → List ℕ → Formula → List (Span × (Range × ℕ))
measured vars ps ss f = nodes_by (measure_of vars ps ss) f

-- those of lets, each over the lets before it
abbrev pub measured_lets : List VarInfo → List Range → List ℕ → List Formula → List (Span × (Range × ℕ))
measured_lets vars ps ss [] = []
measured_lets vars ps ss (f ∷ fs) =
    measured vars ps ss f ++ measured_lets vars (ps ++ range_over (ranges vars) ps (tree vars f) ∷ [])
    (ss ++ size_over ss (tree vars f) ∷ []) fs

-- those of a predicate: the lets in order of the text, then the root
abbrev pub measured_pred : List VarInfo → List Formula → Formula → List (Span × (Range × ℕ))
measured_pred vars lets root = measured_lets vars [] [] lets ++ measured vars (ranges_of_lets vars [] lets)
    (sizes_of_lets vars [] lets) root

-- the ranges and sizes of nodes
abbrev pub node_measures : List (Span × (Range × ℕ)) → List (Range × ℕ)
node_measures nodes = map (λ n. n.1) nodes

-- the root of a predicate with its lets substituted for their names
abbrev pub whole : List VarInfo → List Formula → Formula → Tree
whole vars lets root = inlined (inlined_after [] (map (tree vars) lets)) (tree vars root)

-- its range and its size
abbrev pub measure_of_whole : List VarInfo → List Formula → Formula → Range × ℕ
measure_of_whole vars lets root = (range_over (ranges vars) [] (whole vars lets root), size_over [] (whole vars lets root))
