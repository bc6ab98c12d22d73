-- The value of each node is in its range.
use Rattle.std.proofs.Common.{◌≡◌, ℕ, ℤ, List, [], ◌∷◌, ◌++◌, length, map, refl, zero, suc, ap, arith, pos, ap₂}
use Rattle.std.specs.Prelude.{slice_index_or}
use Rattle.std.proofs.lemmas.Int.{ints}
use Rattle.ln_algebra.specs.Tree.{Tree, Num, Input, Name, Neg, Add, Sub, Mul, Pow, inlined}
use Rattle.ln_tree.specs.declared.shape.VarInfo.{VarInfo}
use Rattle.ln_tree.specs.Row.{AreWithin}
use Rattle.ln_bound.specs.Value.{value, values}
use Rattle.ln_bound.specs.Light.{let_values}
use Rattle.ln_interval.specs.Range.{Range, Holds, point, sum, difference, opposite, product, power}
use Rattle.ln_bound.specs.Ranges.{range_over, ranges, let_ranges, AreHeld, LetsAreHeld}
use Rattle.ln_interval.proofs.Pairs.{sum_holds, difference_holds, opposite_holds, product_holds, power_holds}

-- each number of the first list is in the range of the second
abbrev pub AllHold : List Range → List ℤ → Type 0
AllHold ps zs = (j : ℕ) → Holds (slice_index_or ps j (point (pos 0))) (slice_index_or zs j (pos 0))

module _ (x : ℕ → ℤ) (r : ℕ → Range) (h : (v : ℕ) → Holds (r v) (x v)) where
  -- the value of an expression is in its range
  pub value_held : (zs : List ℤ) (ps : List Range) → AllHold ps zs → (e : Tree) → Holds (range_over r ps e) (value x zs e)
  value_held zs ps l (Num c) = (omega (arith, ints), omega (arith, ints))
  value_held zs ps l (Input v) = h v
  value_held zs ps l (Name j) = l j
  value_held zs ps l (Neg e) = opposite_holds _ _ (value_held zs ps l e)
  value_held zs ps l (Add e f) = sum_holds _ _ _ _ (value_held zs ps l e) (value_held zs ps l f)
  value_held zs ps l (Sub e f) = difference_holds _ _ _ _ (value_held zs ps l e) (value_held zs ps l f)
  value_held zs ps l (Mul e f) =
      product_holds (range_over r ps e) (range_over r ps f) (value x zs e) (value x zs f) (value_held zs ps l e) (value_held zs ps l f)
  value_held zs ps l (Pow e n) = power_holds (range_over r ps e) n (value x zs e) (value_held zs ps l e)

  -- so is that of each node
  pub nodes_held : (zs : List ℤ) (ps : List Range) → AllHold ps zs → (e : Tree) → AreHeld x zs r ps e
  nodes_held zs ps l (Num c) = value_held zs ps l (Num c)
  nodes_held zs ps l (Input v) = value_held zs ps l (Input v)
  nodes_held zs ps l (Name j) = value_held zs ps l (Name j)
  nodes_held zs ps l (Neg e) = (nodes_held zs ps l e, value_held zs ps l (Neg e))
  nodes_held zs ps l (Add e f) = (nodes_held zs ps l e, nodes_held zs ps l f, value_held zs ps l (Add e f))
  nodes_held zs ps l (Sub e f) = (nodes_held zs ps l e, nodes_held zs ps l f, value_held zs ps l (Sub e f))
  nodes_held zs ps l (Mul e f) = (nodes_held zs ps l e, nodes_held zs ps l f, value_held zs ps l (Mul e f))
  nodes_held zs ps l (Pow e n) = (nodes_held zs ps l e, value_held zs ps l (Pow e n))

-- one number more, in one range more
pub more_held : (ps : List Range) (zs : List ℤ) (p : Range) (z : ℤ) → length ps ≡ length zs → Holds p z → AllHold ps zs → AllHold (ps ++ p ∷ []) (zs ++ z ∷ [])
more_held [] [] p z e h l zero = h
more_held [] [] p z e h l (suc j) = l j
more_held [] (y ∷ zs) p z e h l j = absurd (omega arith)
more_held (q ∷ ps) [] p z e h l j = absurd (omega arith)
more_held (q ∷ ps) (y ∷ zs) p z e h l zero = l 0
more_held (q ∷ ps) (y ∷ zs) p z e h l (suc j) = more_held ps zs p z (omega arith) h (λ i. l (suc i)) j

-- as many ranges as numbers stay as many with one more of each
pub more_long : (ps : List Range) (zs : List ℤ) (p : Range) (z : ℤ) → length ps ≡ length zs → length (ps ++ p ∷ []) ≡ length (zs ++ z ∷ [])
more_long [] [] p z e = refl
more_long [] (y ∷ zs) p z e = absurd (omega arith)
more_long (q ∷ ps) [] p z e = absurd (omega arith)
more_long (q ∷ ps) (y ∷ zs) p z e = ap suc (more_long ps zs p z (omega arith))

-- lets: each node of each is held, and the values of all are in their ranges
pub record LetsHold (x : ℕ → ℤ) (zs : List ℤ) (r : ℕ → Range) (ps : List Range) (es : List Tree) : Type 0 where
  pub nodes : LetsAreHeld x zs r ps es
  pub all : AllHold (let_ranges r ps es) (let_values x zs es)

-- where the values of the variables and of the lets before are in their ranges, so are those of the nodes of lets
pub lets_hold : (x : ℕ → ℤ) (r : ℕ → Range) → ((v : ℕ) → Holds (r v) (x v)) → (zs : List ℤ) (ps : List Range) → length ps ≡ length zs
    → AllHold ps zs → (es : List Tree) → LetsHold x zs r ps es
lets_hold x r h zs ps n l [] = record { nodes = tt; all = l }
lets_hold x r h zs ps n l (e ∷ es) =
    let p = range_over r ps e in
    let z = value x zs e in
    let ih = lets_hold x r h (zs ++ z ∷ []) (ps ++ p ∷ []) (more_long ps zs p z n) (more_held ps zs p z n (value_held x r h zs ps l e) l) es in
    record { nodes = (nodes_held x r h zs ps l e, ih.nodes); all = ih.all }

-- ---- rows
-- the values of a row in range are in the ranges of its variables
pub in_ranges : (vars : List VarInfo) (zs : List ℤ) → AreWithin vars zs → (v : ℕ) → Holds (ranges vars v) (values zs v)
in_ranges [] [] h v = (omega (arith, ints), omega (arith, ints))
in_ranges [] (z ∷ zs) h v = absurd h
in_ranges (i ∷ is) [] h v = absurd h
in_ranges (i ∷ is) (z ∷ zs) h zero = (h.0, h.1)
in_ranges (i ∷ is) (z ∷ zs) h (suc v) = in_ranges is zs h.2 v

-- on a row in range the value of each node of lets, and of a tree after them, is in its range
pub row_lets : (vars : List VarInfo) (zs : List ℤ) (es : List Tree) → AreWithin vars zs → LetsAreHeld (values zs) [] (ranges vars) [] es
row_lets vars zs es h = (lets_hold (values zs) (ranges vars) (in_ranges vars zs h) [] [] refl (λ j. (omega (arith, ints), omega (arith, ints))) es).nodes

-- on a row in range the value of each node of a tree after its lets is in its range
pub row_tree : (vars : List VarInfo) (zs : List ℤ) (es : List Tree) (e : Tree) → AreWithin vars zs
    → AreHeld (values zs) (let_values (values zs) [] es) (ranges vars) (let_ranges (ranges vars) [] es) e
row_tree vars zs es e h =
    let l = lets_hold (values zs) (ranges vars) (in_ranges vars zs h) [] [] refl (λ j. (omega (arith, ints), omega (arith, ints))) es in
    nodes_held (values zs) (ranges vars) (in_ranges vars zs h) (let_values (values zs) [] es) (let_ranges (ranges vars) [] es) l.all e

-- ---- lets may be substituted for their names
named : (r : ℕ → Range) (ts : List Tree) (j : ℕ)
    → range_over r [] (slice_index_or ts j (Num (pos 0))) ≡ slice_index_or (map (range_over r []) ts) j (point (pos 0))
named r [] j = refl
named r (t ∷ ts) zero = refl
named r (t ∷ ts) (suc j) = named r ts j

-- the range of a tree with its lets substituted is its range over the ranges of the lets
pub range-inlined : (r : ℕ → Range) (ts : List Tree) (e : Tree) → range_over r [] (inlined ts e) ≡ range_over r (map (range_over r []) ts) e
range-inlined r ts (Num c) = refl
range-inlined r ts (Input v) = refl
range-inlined r ts (Name j) = named r ts j
range-inlined r ts (Neg e) = ap opposite (range-inlined r ts e)
range-inlined r ts (Add e f) = ap₂ sum (range-inlined r ts e) (range-inlined r ts f)
range-inlined r ts (Sub e f) = ap₂ difference (range-inlined r ts e) (range-inlined r ts f)
range-inlined r ts (Mul e f) = ap₂ product (range-inlined r ts e) (range-inlined r ts f)
range-inlined r ts (Pow e n) = ap (λ p. power p n) (range-inlined r ts e)
