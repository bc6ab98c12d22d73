-- The nodes of a predicate with their ranges, sizes and loads, one after the other.
use Rattle.std.proofs.Common.{◌≡◌, ℕ, true, zero, suc, ◌<◌, List, [], ◌∷◌, ◌++◌, length, map, refl, ap, arith, ◌∙◌, append_assoc}
use Rattle.std.specs.Prelude.{not, int_lt, ◌≤ℤ◌}
use Rattle.std.specs.List.{list_all}
use Rattle.std.proofs.lemmas.Bool.{and_parts}
use Rattle.std.proofs.lemmas.Int.{ints}
use Rattle.std.proofs.lemmas.List.{map-append}
use Rattle.ln_base.specs.declared.span.Span.{Span}
use Rattle.ln_tree.specs.declared.shape.VarInfo.{VarInfo}
use Rattle.ln_tree.specs.Formula.{Formula, FNum, FInput, FName, FNeg, FAdd, FSub, FMul, FPow, tree}
use Rattle.ln_tree.specs.Variables.{has_range, is_laid_out}
use Rattle.ln_tree.proofs.KeptLemmas.{laid_out}
use Rattle.ln_interval.specs.Range.{IsOrdered, Range}
use Rattle.ln_bound.specs.declared.measure.Measure.{Measure}
use Rattle.ln_bound.specs.declared.weigh.BoundStop.{BoundStop}
use Rattle.ln_bound.specs.Light.{AreLight}
use Rattle.ln_bound.specs.Loads.{loaded, loaded_lets, measured, measured_lets, node_measures, nodes_by, ranges_of_lets, sizes_of_lets}
use Rattle.ln_bound.specs.Measures.{range_in, seen, size_in}
use Rattle.ln_bound.specs.Ranges.{range_over, ranges, size_over}
use Rattle.ln_bound.specs.Stop.{StopsWeighing}
use Rattle.ln_bound.proofs.Measures.Weighing.{Nodes, light_both, stop_before, stop_behind}

-- the range and the size of a node
abbrev pub Seen : Type 0
Seen = Range × ℕ

-- ---- lets
-- some lets are measured; the rest follow
pub record LetsMeasured (vars : List VarInfo) (whole rest : List Formula) (done all : List Measure) : Type 0 where
  pub front : Nodes
  pub stands : loaded_lets vars [] [] whole ≡ front ++ loaded_lets vars (map range_in done) (map size_in done) rest
  pub light : AreLight front
  pub before : List (Span × Seen)
  pub follows : measured_lets vars [] [] whole ≡ before ++ measured_lets vars (map range_in done) (map size_in done) rest
  pub nodes : map seen all ≡ node_measures before
  pub same_ranges : ranges_of_lets vars (map range_in done) rest ≡ ranges_of_lets vars [] whole
  pub same_sizes : sizes_of_lets vars (map size_in done) rest ≡ sizes_of_lets vars [] whole

-- ---- the loop in `weigh_lets`
module _ (vars : List VarInfo) (whole : List Formula) where
  -- the beginning of the loop in `weigh_lets`: no let is measured
  pub lets_begin : (all : List Measure) → all ≡ [] → LetsMeasured vars whole whole [] all
  lets_begin all e =
      record { front = []; stands = refl; light = tt; before = []; follows = refl; nodes = ap (map seen) e; same_ranges = refl; same_sizes = refl }

  -- the step of the loop in `weigh_lets`: one more let is measured
  pub lets_more : (rest : List Formula) (f : Formula) (done all more after : List Measure)
      → LetsMeasured vars whole (f ∷ rest) done all → AreLight (loaded vars (map range_in done) (map size_in done) f)
      → map seen more ≡ map seen all ++ node_measures (measured vars (map range_in done) (map size_in done) f)
      → map range_in after ≡ map range_in done ++ range_over (ranges vars) (map range_in done) (tree vars f) ∷ []
      → map size_in after ≡ map size_in done ++ size_over (map size_in done) (tree vars f) ∷ []
      → LetsMeasured vars whole rest after more
  lets_more rest f done all more after h l m a b = record {
    front = h.front ++ loaded vars (map range_in done) (map size_in done) f;
    stands = h.stands ∙ rw (a, b, append_assoc) refl;
    light = light_both h.front (loaded vars (map range_in done) (map size_in done) f) h.light l;
    before = h.before ++ measured vars (map range_in done) (map size_in done) f;
    follows = h.follows ∙ rw (a, b, append_assoc) refl;
    nodes = m ∙ rw (h.nodes, map-append) refl;
    same_ranges = rw a h.same_ranges;
    same_sizes = rw b h.same_sizes;
  }

  -- the end of the loop in `weigh_lets` at a failure: what stops the weighing of the next let stops that of all lets
  pub lets_stop : (rest : List Formula) (f : Formula) (done all : List Measure) (s : BoundStop)
      → LetsMeasured vars whole (f ∷ rest) done all → StopsWeighing (loaded vars (map range_in done) (map size_in done) f) s
      → StopsWeighing (loaded_lets vars [] [] whole) s
  lets_stop rest f done all s h e = rw h.stands (stop_behind h.front (loaded vars (map range_in done) (map size_in done) f ++ _) s
      h.light (stop_before (loaded vars (map range_in done) (map size_in done) f) _ s e))

-- ---- the nodes of a formula
-- nodes that end with one have a measure
ends : (xs : List (Span × Seen)) (at : Span) (w : Seen) → 0 < length (node_measures (xs ++ (at, w) ∷ []))
ends [] at w = omega arith
ends (x ∷ xs) at w = omega arith

-- a formula has a node
pub some_measured : (by : Formula → Seen) (f : Formula) → 0 < length (node_measures (nodes_by by f))
some_measured by (FNum at c) = omega arith
some_measured by (FInput at a c) = omega arith
some_measured by (FName at j) = omega arith
some_measured by (FNeg at e) = ends (nodes_by by e) at (by (FNeg at e))
some_measured by (FAdd at e f) = ends (nodes_by by e ++ nodes_by by f) at (by (FAdd at e f))
some_measured by (FSub at e f) = ends (nodes_by by e ++ nodes_by by f) at (by (FSub at e f))
some_measured by (FMul at e f) = ends (nodes_by by e ++ nodes_by by f) at (by (FMul at e f))
some_measured by (FPow at e n) = ends (nodes_by by e) at (by (FPow at e n))

-- there are measures where there are some after others
pub some_behind : (xs ys : List Seen) → 0 < length ys → 0 < length (xs ++ ys)
some_behind [] ys h = h
some_behind (x ∷ xs) ys h = omega arith

-- of these there are as many as there are measures
pub some_seen : (ms : List Measure) → 0 < length (map seen ms) → 0 < length ms
some_seen [] h = h
some_seen (m ∷ ms) h = omega arith

-- ---- variables
ordered_here : (i : VarInfo) → has_range i ≡ true → i.lo ≤ℤ i.hi
ordered_here i h = let e = (and_parts (not (int_lt i.hi i.lo)) _ h).0 in grind (arith, ints, e)

each_ordered : (vars : List VarInfo) → list_all has_range vars ≡ true → (v : ℕ) → IsOrdered (ranges vars v)
each_ordered [] h v = omega (arith, ints)
each_ordered (i ∷ vars) h zero = ordered_here i (and_parts (has_range i) _ h).0
each_ordered (i ∷ vars) h (suc v) = each_ordered vars (and_parts (has_range i) _ h).1 v

-- the ranges of a shape's variables are in order
pub ordered : (sites : ℕ) (vars v : List VarInfo) → is_laid_out sites vars ≡ true → v ≡ vars → (k : ℕ) → IsOrdered (ranges v k)
ordered sites vars v h e = rw e (each_ordered vars (laid_out sites vars h).ranges)
