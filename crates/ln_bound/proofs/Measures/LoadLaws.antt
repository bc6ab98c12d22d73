-- What was accepted by weight is accepted by ranges and sizes.
use Rattle.std.proofs.Common.{◌≡◌, ℕ, ◌<◌, ◌≤◌, List, [], ◌∷◌, ◌++◌, length, map, true, refl, zero, suc, ap, arith, pos}
use Rattle.std.specs.Prelude.{slice_index_or, slice_get, Option, Some, None}
use Rattle.std.proofs.lemmas.Bool.{and_parts}
use Rattle.std.proofs.lemmas.Nat.{mul-le}
use Rattle.std.proofs.Math.Nat.{pow-le-pow_left}
use Rattle.ln_algebra.specs.Tree.{Tree, Num, Input, Name, Neg, Add, Sub, Mul, Pow}
use Rattle.ln_tree.specs.declared.shape.VarInfo.{VarInfo}
use Rattle.ln_tree.specs.Fits.{is_fit, lets_fit}
use Rattle.ln_tree.specs.Formula.{Formula, FNum, FInput, FName, FNeg, FAdd, FSub, FMul, FPow, tree}
use Rattle.ln_bound.specs.Value.{weight_over, weights, weight_or}
use Rattle.ln_bound.specs.Light.{most, weight_of, weighed, weighed_lets, weighed_pred, let_weights, AreLight}
use Rattle.ln_bound.proofs.Measures.Fitting.{light_parts}
use Rattle.ln_bound.proofs.Measures.Weighing.{light_both}
use Rattle.ln_bound.proofs.Soundness.WidthLaws.{lt_test}
use Rattle.ln_interval.specs.Range.{Range, point, magnitude}
use Rattle.ln_bound.specs.Ranges.{range_over, size_over, range_or, ranges}
use Rattle.ln_bound.specs.Loads.{nodes_by, load_of, loaded, loaded_lets, loaded_pred, ranges_of_lets, sizes_of_lets}
use Rattle.ln_interval.proofs.Magnitudes.{sum_magnitude, difference_magnitude, opposite_magnitude, product_magnitude, power_magnitude}

-- ---- one node
-- the magnitude of a range is at most the weight, where those of variables and lets are
pub range_weight : (r : ℕ → Range) (w : ℕ → ℕ) (ps : List Range) (ws : List ℕ) → ((v : ℕ) → magnitude (r v) ≤ w v)
    → ((j : ℕ) → magnitude (slice_index_or ps j (point (pos 0))) ≤ slice_index_or ws j 0) → (e : Tree) → magnitude (range_over r ps e) ≤ weight_over w ws e
range_weight r w ps ws h l (Num c) = omega arith
range_weight r w ps ws h l (Input v) = h v
range_weight r w ps ws h l (Name j) = l j
range_weight r w ps ws h l (Neg e) = let p = range_weight r w ps ws h l e in let m = opposite_magnitude (range_over r ps e) in omega (arith, p, m)
range_weight r w ps ws h l (Add e f) =
    let p = range_weight r w ps ws h l e in
    let q = range_weight r w ps ws h l f in
    let m = sum_magnitude (range_over r ps e) (range_over r ps f) in
    omega (arith, p, q, m)
range_weight r w ps ws h l (Sub e f) =
    let p = range_weight r w ps ws h l e in
    let q = range_weight r w ps ws h l f in
    let m = difference_magnitude (range_over r ps e) (range_over r ps f) in
    omega (arith, p, q, m)
range_weight r w ps ws h l (Mul e f) =
    let m = product_magnitude (range_over r ps e) (range_over r ps f) in
    let n = mul-le _ _ _ _ (range_weight r w ps ws h l e) (range_weight r w ps ws h l f) in
    rw m n
range_weight r w ps ws h l (Pow e n) =
    let m = power_magnitude (range_over r ps e) n in
    rw m (pow-le-pow_left (range_weight r w ps ws h l e) n)

-- a size is at most the weight, where each variable that is there weighs at least 2
pub size_weight : (n k : ℕ) (w : ℕ → ℕ) (ss ws : List ℕ) → ((v : ℕ) → v < n → 2 ≤ w v)
    → ((j : ℕ) → slice_index_or ss j 0 ≤ slice_index_or ws j 0) → (e : Tree) → is_fit n k e ≡ true → size_over ss e ≤ weight_over w ws e
size_weight n k w ss ws h l (Num c) f = omega arith
size_weight n k w ss ws h l (Input v) f = h v (lt_test v n f)
size_weight n k w ss ws h l (Name j) f = l j
size_weight n k w ss ws h l (Neg e) f = size_weight n k w ss ws h l e f
size_weight n k w ss ws h l (Add d e) f =
    let g = and_parts (is_fit n k d) _ f in
    let p = size_weight n k w ss ws h l d g.0 in
    let q = size_weight n k w ss ws h l e g.1 in
    omega (arith, p, q)
size_weight n k w ss ws h l (Sub d e) f =
    let g = and_parts (is_fit n k d) _ f in
    let p = size_weight n k w ss ws h l d g.0 in
    let q = size_weight n k w ss ws h l e g.1 in
    omega (arith, p, q)
size_weight n k w ss ws h l (Mul d e) f =
    let g = and_parts (is_fit n k d) _ f in
    mul-le _ _ _ _ (size_weight n k w ss ws h l d g.0) (size_weight n k w ss ws h l e g.1)
size_weight n k w ss ws h l (Pow e m) f = let g = and_parts (is_fit n k e) _ f in pow-le-pow_left (size_weight n k w ss ws h l e g.0) m

or_below : (o : Option VarInfo) → magnitude (range_or o) ≤ weight_or o
or_below None = omega arith
or_below (Some i) = omega arith

-- the range of a variable is within its weight
pub ranges_below : (vars : List VarInfo) (v : ℕ) → magnitude (ranges vars v) ≤ weights vars v
ranges_below vars v = or_below (slice_get vars v)

-- a variable that is there weighs at least 2
pub at_least_two : (vars : List VarInfo) (v : ℕ) → v < length vars → 2 ≤ weights vars v
at_least_two [] v h = absurd (omega arith)
at_least_two (i ∷ vars) zero h = omega arith
at_least_two (i ∷ vars) (suc v) h = at_least_two vars v (omega arith)

-- ---- all nodes of a formula
-- the nodes with their weights
weighed_by : (vars : List VarInfo) (ws : List ℕ) (f : Formula) → weighed vars ws f ≡ nodes_by (weight_of vars ws) f
weighed_by vars ws (FNum at c) = refl
weighed_by vars ws (FInput at a c) = refl
weighed_by vars ws (FName at j) = refl
weighed_by vars ws (FNeg at e) = let p = weighed_by vars ws e in rw p refl
weighed_by vars ws (FAdd at e f) = let p = weighed_by vars ws e in let q = weighed_by vars ws f in rw (p, q) refl
weighed_by vars ws (FSub at e f) = let p = weighed_by vars ws e in let q = weighed_by vars ws f in rw (p, q) refl
weighed_by vars ws (FMul at e f) = let p = weighed_by vars ws e in let q = weighed_by vars ws f in rw (p, q) refl
weighed_by vars ws (FPow at e n) = let p = weighed_by vars ws e in rw p refl

less : (a b : ℕ) → a ≤ b → b ≤ most → a ≤ most
less a b h l = omega (arith, h, l)

-- where another number of each fit node is at most its weight, none is too large where no weight is
lighter : (vars : List VarInfo) (k : ℕ) (by bw : Formula → ℕ) → ((f : Formula) → is_fit (length vars) k (tree vars f) ≡ true → by f ≤ bw f)
    → (f : Formula) → is_fit (length vars) k (tree vars f) ≡ true → AreLight (nodes_by bw f) → AreLight (nodes_by by f)
lighter vars k by bw h (FNum at c) g l = (less _ _ (h (FNum at c) g) l.0, tt)
lighter vars k by bw h (FInput at a c) g l = (less _ _ (h (FInput at a c) g) l.0, tt)
lighter vars k by bw h (FName at j) g l = (less _ _ (h (FName at j) g) l.0, tt)
lighter vars k by bw h (FNeg at e) g l =
    let p = light_parts (nodes_by bw e) _ l in
    light_both (nodes_by by e) _ (lighter vars k by bw h e g p.0) (less _ _ (h (FNeg at e) g) p.1.0, tt)
lighter vars k by bw h (FAdd at e f) g l =
    let p = light_parts (nodes_by bw e ++ nodes_by bw f) _ l in
    let q = light_parts (nodes_by bw e) _ p.0 in
    let t = and_parts (is_fit (length vars) k (tree vars e)) _ g in
    light_both (nodes_by by e ++ nodes_by by f) _ (light_both (nodes_by by e) _ (lighter vars k by bw h e t.0 q.0) (lighter vars k by bw h f t.1 q.1))
    (less _ _ (h (FAdd at e f) g) p.1.0, tt)
lighter vars k by bw h (FSub at e f) g l =
    let p = light_parts (nodes_by bw e ++ nodes_by bw f) _ l in
    let q = light_parts (nodes_by bw e) _ p.0 in
    let t = and_parts (is_fit (length vars) k (tree vars e)) _ g in
    light_both (nodes_by by e ++ nodes_by by f) _ (light_both (nodes_by by e) _ (lighter vars k by bw h e t.0 q.0) (lighter vars k by bw h f t.1 q.1))
    (less _ _ (h (FSub at e f) g) p.1.0, tt)
lighter vars k by bw h (FMul at e f) g l =
    let p = light_parts (nodes_by bw e ++ nodes_by bw f) _ l in
    let q = light_parts (nodes_by bw e) _ p.0 in
    let t = and_parts (is_fit (length vars) k (tree vars e)) _ g in
    light_both (nodes_by by e ++ nodes_by by f) _ (light_both (nodes_by by e) _ (lighter vars k by bw h e t.0 q.0) (lighter vars k by bw h f t.1 q.1))
    (less _ _ (h (FMul at e f) g) p.1.0, tt)
lighter vars k by bw h (FPow at e n) g l =
    let p = light_parts (nodes_by bw e) _ l in
    let t = and_parts (is_fit (length vars) k (tree vars e)) _ g in
    light_both (nodes_by by e) _ (lighter vars k by bw h e t.0 p.0) (less _ _ (h (FPow at e n) g) p.1.0, tt)

-- the ranges and sizes of lets are at most their weights
pub record Below (ps : List Range) (ss ws : List ℕ) : Type 0 where
  pub long_ranges : length ps ≡ length ws
  pub long_sizes : length ss ≡ length ws
  pub ranges : (j : ℕ) → magnitude (slice_index_or ps j (point (pos 0))) ≤ slice_index_or ws j 0
  pub sizes : (j : ℕ) → slice_index_or ss j 0 ≤ slice_index_or ws j 0

-- after such lets the load of a fit formula is at most its weight
load_below : (vars : List VarInfo) (k : ℕ) (ps : List Range) (ss ws : List ℕ) → Below ps ss ws → (f : Formula)
    → is_fit (length vars) k (tree vars f) ≡ true → load_of vars ps ss f ≤ weight_of vars ws f
load_below vars k ps ss ws b f g =
    let r = range_weight (ranges vars) (weights vars) ps ws (ranges_below vars) b.ranges (tree vars f) in
    let s = size_weight (length vars) k (weights vars) ss ws (at_least_two vars) b.sizes (tree vars f) g in
    omega (arith, r, s)

lighter_formula : (vars : List VarInfo) (k : ℕ) (ps : List Range) (ss ws : List ℕ) → Below ps ss ws → (f : Formula)
    → is_fit (length vars) k (tree vars f) ≡ true → AreLight (weighed vars ws f) → AreLight (loaded vars ps ss f)
lighter_formula vars k ps ss ws b f g l =
    let e = weighed_by vars ws f in
    lighter vars k (load_of vars ps ss) (weight_of vars ws) (load_below vars k ps ss ws b) f g (rw e at l)

-- ---- lets
more_ranges : (ps : List Range) (ws : List ℕ) (p : Range) (w : ℕ) → length ps ≡ length ws → magnitude p ≤ w
    → ((j : ℕ) → magnitude (slice_index_or ps j (point (pos 0))) ≤ slice_index_or ws j 0) → (j : ℕ)
    → magnitude (slice_index_or (ps ++ p ∷ []) j (point (pos 0))) ≤ slice_index_or (ws ++ w ∷ []) j 0
more_ranges [] [] p w e h l zero = h
more_ranges [] [] p w e h l (suc j) = omega arith
more_ranges [] (v ∷ ws) p w e h l j = absurd (omega arith)
more_ranges (q ∷ ps) [] p w e h l j = absurd (omega arith)
more_ranges (q ∷ ps) (v ∷ ws) p w e h l zero = l 0
more_ranges (q ∷ ps) (v ∷ ws) p w e h l (suc j) = more_ranges ps ws p w (omega arith) h (λ i. l (suc i)) j

-- where each size is at most the weight at its place, so it is with one more size and its weight at the end
pub more_sizes : (ss ws : List ℕ) (s w : ℕ) → length ss ≡ length ws → s ≤ w → ((j : ℕ) → slice_index_or ss j 0 ≤ slice_index_or ws j 0)
    → (j : ℕ) → slice_index_or (ss ++ s ∷ []) j 0 ≤ slice_index_or (ws ++ w ∷ []) j 0
more_sizes [] [] s w e h l zero = h
more_sizes [] [] s w e h l (suc j) = omega arith
more_sizes [] (v ∷ ws) s w e h l j = absurd (omega arith)
more_sizes (q ∷ ss) [] s w e h l j = absurd (omega arith)
more_sizes (q ∷ ss) (v ∷ ws) s w e h l zero = l 0
more_sizes (q ∷ ss) (v ∷ ws) s w e h l (suc j) = more_sizes ss ws s w (omega arith) h (λ i. l (suc i)) j

-- lists of equal length are of equal length with one more element at the end of each
pub long_more : {A B : Type 0} → (xs : List A) (ys : List B) (x : A) (y : B) → length xs ≡ length ys → length (xs ++ x ∷ []) ≡ length (ys ++ y ∷ [])
long_more [] [] x y e = refl
long_more [] (b ∷ ys) x y e = absurd (omega arith)
long_more (a ∷ xs) [] x y e = absurd (omega arith)
long_more (a ∷ xs) (b ∷ ys) x y e = ap suc (long_more xs ys x y (omega arith))

-- what is known of lets whose weights are not too large: nor are their loads, and their ranges and sizes are at most their weights
pub record LighterLets (vars : List VarInfo) (ps : List Range) (ss ws : List ℕ) (fs : List Formula) : Type 0 where
  pub light : AreLight (loaded_lets vars ps ss fs)
  pub below : Below (ranges_of_lets vars ps fs) (sizes_of_lets vars ss fs) (let_weights vars ws fs)

lighter_lets : (vars : List VarInfo) (k : ℕ) (ps : List Range) (ss ws : List ℕ) (fs : List Formula) → Below ps ss ws
    → lets_fit (length vars) k (map (tree vars) fs) ≡ true → AreLight (weighed_lets vars ws fs) → LighterLets vars ps ss ws fs
lighter_lets vars k ps ss ws [] b g l = record { light = tt; below = b }
lighter_lets vars k ps ss ws (f ∷ fs) b g l =
    let h = and_parts (is_fit (length vars) k (tree vars f)) _ g in
    let m = light_parts (weighed vars ws f) _ l in
    let p = range_over (ranges vars) ps (tree vars f) in
    let s = size_over ss (tree vars f) in
    let w = weight_of vars ws f in
    let r = range_weight (ranges vars) (weights vars) ps ws (ranges_below vars) b.ranges (tree vars f) in
    let z = size_weight (length vars) k (weights vars) ss ws (at_least_two vars) b.sizes (tree vars f) h.0 in
    let ih = lighter_lets vars (suc k) (ps ++ p ∷ []) (ss ++ s ∷ []) (ws ++ w ∷ []) fs
    (record {
      long_ranges = long_more ps ws p w b.long_ranges;
      long_sizes = long_more ss ws s w b.long_sizes;
      ranges = more_ranges ps ws p w b.long_ranges r b.ranges;
      sizes = more_sizes ss ws s w b.long_sizes z b.sizes;
    }) h.1 m.1 in
    record { light = light_both (loaded vars ps ss f) _ (lighter_formula vars k ps ss ws b f h.0 m.0) ih.light; below = ih.below }

-- ---- the predicate
-- where no node's weight is too large, no range and no size is too large
pub old_nodes : (vars : List VarInfo) (k : ℕ) (lets : List Formula) (root : Formula) → lets_fit (length vars) 0 (map (tree vars) lets) ≡ true
    → is_fit (length vars) k (tree vars root) ≡ true → AreLight (weighed_pred vars lets root) → AreLight (loaded_pred vars lets root)
old_nodes vars k lets root g h l =
    let m = light_parts (weighed_lets vars [] lets) _ l in
    let r = lighter_lets vars 0 [] [] [] lets (record { long_ranges = refl; long_sizes = refl; ranges = λ j. omega arith; sizes = λ j. omega arith }) g m.0 in
    light_both (loaded_lets vars [] [] lets) _ r.light
    (lighter_formula vars k (ranges_of_lets vars [] lets) (sizes_of_lets vars [] lets) (let_weights vars [] lets) r.below root h m.1)
