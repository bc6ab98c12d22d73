-- A predicate with its lets substituted for their names: its value, its weight and its range.
use Rattle.std.proofs.Common.{◌≡◌, ℕ, ℤ, ◌+◌, ◌*◌, ◌^◌, ◌-◌, List, [], ◌∷◌, ◌++◌, map, length, refl, zero, suc, ap, ap₂, arith, pos, ◌∙◌}
use Rattle.std.proofs.Common.{sym, append_assoc, length-append}
use Rattle.std.specs.Prelude.{slice_index_or}
use Rattle.std.proofs.lemmas.List.{map-append}
use Rattle.ln_base.specs.declared.span.Span.{Span}
use Rattle.ln_algebra.specs.Tree.{Tree, Num, Input, Name, Neg, Add, Sub, Mul, Pow, inlined, inlined_after}
use Rattle.ln_algebra.specs.Sizes.{two}
use Rattle.ln_interval.specs.Range.{Range}
use Rattle.ln_tree.specs.declared.shape.VarInfo.{VarInfo}
use Rattle.ln_tree.specs.Formula.{Formula, FNum, FInput, FName, FNeg, FAdd, FSub, FMul, FPow, tree}
use Rattle.ln_bound.specs.Value.{value, weight_over}
use Rattle.ln_bound.specs.Light.{let_values}
use Rattle.ln_bound.specs.Room.{let_bounds}
use Rattle.ln_bound.specs.Ranges.{range_over, size_over, let_ranges, ranges}
use Rattle.ln_bound.specs.Loads.{nodes_by, measure_of, measured, measured_lets, measured_pred, node_measures, ranges_of_lets, sizes_of_lets, measure_of_whole}
use Rattle.ln_bound.proofs.Trees.LetLists.{index_new}
use Rattle.ln_bound.proofs.Trees.Values.{value-inlined}
use Rattle.ln_bound.proofs.Soundness.RangeLaws.{range-inlined}

-- ---- whatever is said of a tree after what is said of lets

-- what is said of each of the lets, over those before it, after these
abbrev behind : {A : Type 0} → (List A → Tree → A) → List A → List Tree → List A
behind f done [] = done
behind f done (t ∷ ts) = behind f (done ++ (f done t ∷ [])) ts

-- a tree with others substituted is as the tree after what is said of these
abbrev PutsIn : {A : Type 0} → (List A → Tree → A) → Type 0
PutsIn f = (ts : List Tree) (e : Tree) → f [] (inlined ts e) ≡ f (map (f []) ts) e

all_after : {A : Type 0} (f : List A → Tree → A) → PutsIn f → (done ts : List Tree) → map (f []) (inlined_after done ts) ≡ behind f (map (f []) done) ts
all_after f p done [] = refl
all_after f p done (t ∷ ts) =
    let a : map (f []) (done ++ (inlined done t ∷ [])) ≡ map (f []) done ++ (f [] (inlined done t) ∷ []) = map-append (f []) done (inlined done t ∷ []) in
    let b : f [] (inlined done t) ≡ f (map (f []) done) t = p done t in
    all_after f p (done ++ (inlined done t ∷ [])) ts ∙ ap (λ l. behind f l ts) (a ∙ ap (λ z. map (f []) done ++ (z ∷ [])) b)

put_in : {A : Type 0} (f : List A → Tree → A) → PutsIn f → (lets : List Tree) (t : Tree) → f (behind f [] lets) t ≡ f [] (inlined (inlined_after [] lets) t)
put_in f p lets t = sym (p (inlined_after [] lets) t ∙ ap (λ l. f l t) (all_after f p [] lets))

-- ---- values

values_behind : (x : ℕ → ℤ) (done : List ℤ) (ts : List Tree) → let_values x done ts ≡ behind (value x) done ts
values_behind x done [] = refl
values_behind x done (t ∷ ts) = values_behind x (done ++ (value x done t ∷ [])) ts

-- a tree over the values of its lets has the value of the tree with the lets substituted for their names
pub whole_value : (x : ℕ → ℤ) (lets : List Tree) (t : Tree) → value x (let_values x [] lets) t ≡ value x [] (inlined (inlined_after [] lets) t)
whole_value x lets t = ap (λ l. value x l t) (values_behind x [] lets) ∙ put_in (value x) (value-inlined x) lets t

-- ---- weights

named : (w : ℕ → ℕ) (ts : List Tree) (j : ℕ) → weight_over w [] (slice_index_or ts j (Num (pos 0))) ≡ slice_index_or (map (weight_over w []) ts) j 0
named w [] j = refl
named w (t ∷ ts) zero = refl
named w (t ∷ ts) (suc j) = named w ts j

weight_inlined : (w : ℕ → ℕ) (ts : List Tree) (e : Tree) → weight_over w [] (inlined ts e) ≡ weight_over w (map (weight_over w []) ts) e
weight_inlined w ts (Num c) = refl
weight_inlined w ts (Input v) = refl
weight_inlined w ts (Name j) = named w ts j
weight_inlined w ts (Neg e) = weight_inlined w ts e
weight_inlined w ts (Add e f) = ap₂ (λ a b. a + b) (weight_inlined w ts e) (weight_inlined w ts f)
weight_inlined w ts (Sub e f) = ap₂ (λ a b. a + b) (weight_inlined w ts e) (weight_inlined w ts f)
weight_inlined w ts (Mul e f) = ap₂ (λ a b. a * b) (weight_inlined w ts e) (weight_inlined w ts f)
weight_inlined w ts (Pow e n) = ap (λ a. a ^ n) (weight_inlined w ts e)

bounds_behind : (w : ℕ → ℕ) (done : List ℕ) (ts : List Tree) → let_bounds w done ts ≡ behind (weight_over w) done ts
bounds_behind w done [] = refl
bounds_behind w done (t ∷ ts) = bounds_behind w (done ++ (weight_over w done t ∷ [])) ts

-- a tree over the weights of its lets has the weight of the tree with the lets substituted for their names
pub whole_weight : (w : ℕ → ℕ) (lets : List Tree) (t : Tree) → weight_over w (let_bounds w [] lets) t ≡ weight_over w [] (inlined (inlined_after [] lets) t)
whole_weight w lets t = ap (λ l. weight_over w l t) (bounds_behind w [] lets) ∙ put_in (weight_over w) (weight_inlined w) lets t

-- ---- ranges

ranges_behind : (r : ℕ → Range) (done : List Range) (ts : List Tree) → let_ranges r done ts ≡ behind (range_over r) done ts
ranges_behind r done [] = refl
ranges_behind r done (t ∷ ts) = ranges_behind r (done ++ (range_over r done t ∷ [])) ts

-- a tree over the ranges of its lets has the range of the tree with the lets substituted for their names
pub whole_range : (r : ℕ → Range) (lets : List Tree) (t : Tree) → range_over r (let_ranges r [] lets) t ≡ range_over r [] (inlined (inlined_after [] lets) t)
whole_range r lets t = ap (λ l. range_over r l t) (ranges_behind r [] lets) ∙ put_in (range_over r) (range-inlined r) lets t

-- ---- the last node of a predicate is its root

ranges_of_trees : (vars : List VarInfo) (ps : List Range) (fs : List Formula) → ranges_of_lets vars ps fs ≡ let_ranges (ranges vars) ps (map (tree vars) fs)
ranges_of_trees vars ps [] = refl
ranges_of_trees vars ps (f ∷ fs) = ranges_of_trees vars (ps ++ (range_over (ranges vars) ps (tree vars f) ∷ [])) fs

sizes_of_trees : (vars : List VarInfo) (ss : List ℕ) (fs : List Formula) → sizes_of_lets vars ss fs ≡ let_bounds two ss (map (tree vars) fs)
sizes_of_trees vars ss [] = refl
sizes_of_trees vars ss (f ∷ fs) = sizes_of_trees vars (ss ++ (size_over ss (tree vars f) ∷ [])) fs

-- the root's measure is that of the whole
root_measure : (vars : List VarInfo) (lets : List Formula) (root : Formula)
    → measure_of vars (ranges_of_lets vars [] lets) (sizes_of_lets vars [] lets) root ≡ measure_of_whole vars lets root
root_measure vars lets root =
    let a = ap (λ l. range_over (ranges vars) l (tree vars root)) (ranges_of_trees vars [] lets)
    ∙ whole_range (ranges vars) (map (tree vars) lets) (tree vars root) in
    let b = ap (λ l. weight_over two l (tree vars root)) (sizes_of_trees vars [] lets) ∙ whole_weight two (map (tree vars) lets) (tree vars root) in
    ap₂ (λ p s. (p, s)) a b

-- a list has this at its end
record Ends {A : Type 0} (xs : List (Span × A)) (x : A) : Type 0 where
  front : List (Span × A)
  at : Span
  ends : xs ≡ front ++ ((at, x) ∷ [])

ends_on : {A : Type 0} (xs ys : List (Span × A)) (x : A) → Ends ys x → Ends (xs ++ ys) x
ends_on xs ys x e = record { front = xs ++ e.front; at = e.at; ends = ap (λ l. xs ++ l) e.ends ∙ sym (append_assoc xs e.front ((e.at, x) ∷ [])) }

last_node : {A : Type 0} (by : Formula → A) (f : Formula) → Ends (nodes_by by f) (by f)
last_node by (FNum at c) = record { front = []; at = at; ends = refl }
last_node by (FInput at a c) = record { front = []; at = at; ends = refl }
last_node by (FName at j) = record { front = []; at = at; ends = refl }
last_node by (FNeg at e) = record { front = nodes_by by e; at = at; ends = refl }
last_node by (FAdd at e f) = record { front = nodes_by by e ++ nodes_by by f; at = at; ends = refl }
last_node by (FSub at e f) = record { front = nodes_by by e ++ nodes_by by f; at = at; ends = refl }
last_node by (FMul at e f) = record { front = nodes_by by e ++ nodes_by by f; at = at; ends = refl }
last_node by (FPow at e n) = record { front = nodes_by by e; at = at; ends = refl }

-- the last measure of a predicate's nodes is that of its root with the lets substituted for their names
pub last_measure : (vars : List VarInfo) (lets : List Formula) (root : Formula) (d : Range × ℕ)
    → slice_index_or (node_measures (measured_pred vars lets root)) (length (node_measures (measured_pred vars lets root)) - 1) d
    ≡ measure_of_whole vars lets root
last_measure vars lets root d =
    let ps = ranges_of_lets vars [] lets in
    let ss = sizes_of_lets vars [] lets in
    let x = measure_of vars ps ss root in
    let e = ends_on (measured_lets vars [] [] lets) (measured vars ps ss root) x (last_node (measure_of vars ps ss) root) in
    let m : node_measures (measured_pred vars lets root) ≡ node_measures e.front ++ (x ∷ []) =
    ap node_measures e.ends ∙ map-append (λ n. n.1) e.front ((e.at, x) ∷ []) in
    let l = length-append (node_measures e.front) (x ∷ []) in
    let n : length (node_measures e.front ++ (x ∷ [])) - 1 ≡ length (node_measures e.front) = omega (arith, l) in
    rw (m, n) (index_new (node_measures e.front) x d ∙ root_measure vars lets root)
