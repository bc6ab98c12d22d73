-- The nodes of one expression, weighed one after the other.
use Rattle.std.proofs.Common.{◌≡◌, ℕ, ◌<◌, ◌^◌, max, List, [], ◌∷◌, ◌++◌, map, refl, arith, ◌∙◌, sym, subst, ap₂, append_assoc, append-nil, Result, Ok, Err}
use Rattle.std.specs.Prelude.{Option, Some, None, MatchOption, MatchResult, IfOk, IfErr}
use Rattle.std.proofs.lemmas.List.{map-append}
use Rattle.ln_base.specs.declared.span.Span.{Span}
use Rattle.ln_tree.specs.declared.shape.VarInfo.{VarInfo}
use Rattle.ln_tree.specs.Formula.{Formula, FNeg, FPow, tree}
use Rattle.ln_interval.specs.Range.{Range, magnitude, opposite, power}
use Rattle.ln_interval.specs.View.{range}
use Rattle.ln_bound.specs.declared.fitted.Two.{Two}
use Rattle.ln_bound.specs.declared.fitted.Two.TheVariants.{Plus, Minus, Times}
use Rattle.ln_bound.specs.declared.measure.Measure.{Measure}
use Rattle.ln_bound.specs.declared.weigh.BoundStop.{BoundStop}
use Rattle.ln_bound.specs.Light.{most, AreLight}
use Rattle.ln_bound.specs.Loads.{load_of, loaded, loaded_lets, loaded_pred, measure_of, measured, measured_lets, measured_pred}
use Rattle.ln_bound.specs.Loads.{node_measures, ranges_of_lets, sizes_of_lets}
use Rattle.ln_bound.specs.Measures.{IsMeasure, range_in, seen, size_in, tested}
use Rattle.ln_bound.specs.Ranges.{range_over, ranges, size_over}
use Rattle.ln_bound.specs.Stop.{StopsWeighing, IsHeavy, IsHeavyOrNoMemory}
use Rattle.ln_bound.specs.Typed.{bound_of, formula_of, range_of}
use Rattle.ln_bound.specs.Weighed.{IsWeighed}
use Rattle.ln_bound.proofs.Measures.Measuring.{Seen}
use Rattle.ln_bound.proofs.Measures.Weighing.{Nodes, light_behind, light_both, stop_before, stop_behind, stop_here}

-- a measure that a node has, or none where its load is too large
abbrev pub HasMeasure : List VarInfo → List Measure → Formula → Option Measure → Type 0
HasMeasure vars lets e o = MatchOption o (most < load_of vars (map range_in lets) (map size_in lets) e)
    (λ m. IsMeasure m (range_over (ranges vars) (map range_in lets) (tree vars e)) (size_over (map size_in lets) (tree vars e)))

-- what weighing a formula returns
abbrev pub Answers : List VarInfo → List Measure → Formula → List Measure → List Measure → Result Measure BoundStop → Type 0
Answers vars lets e old new r = MatchResult r (IsWeighed vars lets e old new) (StopsWeighing (loaded vars (map range_in lets) (map size_in lets) e))

-- where there is no measure the load is too large
too_heavy : (o : Option Measure) (l : ℕ) (P : Measure → Type 0) → MatchOption o (most < l) P → IsHeavy (tested o) → most < l
too_heavy None l P m h = m
too_heavy (Some x) l P m h = let f : most < 0 = h in omega (arith, f)

more_nodes : (old mid new : List Measure) (ys : List (Span × Seen)) (at : Span) (w : Measure) (z : Seen) → map seen mid ≡ map seen old ++ node_measures ys
    → new ≡ mid ++ w ∷ [] → seen w ≡ z → map seen new ≡ map seen old ++ node_measures (ys ++ (at, z) ∷ [])
more_nodes old mid new ys at w z h e k = rw (e, map-append, map-append) (rw (h, k) (append_assoc (map seen old) (node_measures ys) (z ∷ [])))

same_pair : (m : Measure) (p : Range) (s : ℕ) → range m.pair ≡ p → m.size ≡ s → seen m ≡ (p, s)
same_pair m p s e f = rw (e, f) refl

-- ---- a node's place, its measure and the measures before and after it
module _ (vars : List VarInfo) (lets : List Measure) (e : Formula) (at : Span) (o : Option Measure) (old new : List Measure) where
  -- a node after light ones: its measure is appended to theirs, or it is the first whose weight is too large
  pub weighed : (xs : Nodes) (ys : List (Span × Seen)) (mid : List Measure) (r : Result Measure BoundStop)
      → loaded vars (map range_in lets) (map size_in lets) e ≡ xs ++ (at, load_of vars (map range_in lets) (map size_in lets) e) ∷ []
      → measured vars (map range_in lets) (map size_in lets) e ≡ ys ++ (at, measure_of vars (map range_in lets) (map size_in lets) e) ∷ []
      → AreLight xs → map seen mid ≡ map seen old ++ node_measures ys → HasMeasure vars lets e o
      → IfOk r (λ w. (o ≡ Some w) × (new ≡ mid ++ w ∷ [])) → IfErr r (IsHeavyOrNoMemory at (tested o)) → Answers vars lets e old new r
  weighed xs ys mid (Ok w) ql qm l n h a b =
      let m : IsMeasure w (range_over (ranges vars) (map range_in lets) (tree vars e)) (size_over (map size_in lets) (tree vars e)) = rw a.0 at h in
      record {
        measure = m;
        nodes =
            rw qm (more_nodes old mid new ys at w (measure_of vars (map range_in lets) (map size_in lets) e) n a.1 (same_pair w _ _ m.same_range m.same_size));
        light = rw ql (light_behind xs at (load_of vars (map range_in lets) (map size_in lets) e) l m.small);
      }
  weighed xs ys mid (Err s) ql qm l n h a b = rw ql (stop_here xs at (load_of vars (map range_in lets) (map size_in lets) e)
      (tested o) s l (too_heavy o (load_of vars (map range_in lets) (map size_in lets) e) _ h) b)

  -- a leaf
  pub leaf_weighed : (r : Result Measure BoundStop)
      → loaded vars (map range_in lets) (map size_in lets) e ≡ (at, load_of vars (map range_in lets) (map size_in lets) e) ∷ []
      → measured vars (map range_in lets) (map size_in lets) e ≡ (at, measure_of vars (map range_in lets) (map size_in lets) e) ∷ []
      → HasMeasure vars lets e o → IfOk r (λ w. (o ≡ Some w) × (new ≡ old ++ w ∷ [])) → IfErr r (IsHeavyOrNoMemory at (tested o))
      → Answers vars lets e old new r
  leaf_weighed r ql qm h a b = weighed [] [] old r ql qm tt (sym (append-nil (map seen old))) h a b

-- a formula that is another is weighed as that
pub weighed_as : (vars : List VarInfo) (lets : List Measure) (e f : Formula) (old new : List Measure) (r : Result Measure BoundStop) → e ≡ f
    → Answers vars lets f old new r → Answers vars lets e old new r
weighed_as vars lets e f old new r q h = subst (λ z. Answers vars lets z old new r) (sym q) h

-- ---- one operand
-- the opposite's measure, where the operand has that range and that size
opposite_measured : (p q : Range) (s t : ℕ) (m : Measure) → p ≡ q → s ≡ t → IsMeasure m (opposite p) s → IsMeasure m (opposite q) t
opposite_measured p q s t m e f h = rw (e, f) at h

-- the power's measure, where the base has that range and that size
power_measured : (p q : Range) (s t n : ℕ) (o : Option Measure) → p ≡ q → s ≡ t
    → MatchOption o (most < max (magnitude (power p n)) (s ^ n)) (λ m. IsMeasure m (power p n) (s ^ n))
    → MatchOption o (most < max (magnitude (power q n)) (t ^ n)) (λ m. IsMeasure m (power q n) (t ^ n))
power_measured p q s t n o e f h = rw (e, f) at h

-- ---- an operand that is weighed
module _ (vars : List VarInfo) (lets : List Measure) (x : Formula) (a : Measure) (old mid : List Measure) (h : IsWeighed vars lets x old mid a) where
  -- the case of a negation in `weigh_in`: the node of the negation, after those of its operand
  pub opposite_weighed : (at : Span) (m : Measure) (new : List Measure) (r : Result Measure BoundStop) → IsMeasure m (opposite (range a.pair)) a.size
      → IfOk r (λ w. (Some m ≡ Some w) × (new ≡ mid ++ w ∷ [])) → IfErr r (IsHeavyOrNoMemory at (tested (Some m)))
      → Answers vars lets (FNeg at x) old new r
  opposite_weighed at m new r k i j =
      weighed vars lets (FNeg at x) at (Some m) old new (loaded vars (map range_in lets) (map size_in lets) x)
      (measured vars (map range_in lets) (map size_in lets) x) mid r refl refl h.light h.nodes
      (opposite_measured (range a.pair) _ a.size _ m h.measure.same_range h.measure.same_size k) i j

  -- the case of a power in `weigh_in`: the node of the power, after those of its base
  pub power_weighed : (n : ℕ) (at : Span) (o : Option Measure) (new : List Measure) (r : Result Measure BoundStop)
      → MatchOption o (most < max (magnitude (power (range a.pair) n)) (a.size ^ n)) (λ m. IsMeasure m (power (range a.pair) n) (a.size ^ n))
      → IfOk r (λ w. (o ≡ Some w) × (new ≡ mid ++ w ∷ [])) → IfErr r (IsHeavyOrNoMemory at (tested o)) → Answers vars lets (FPow at x n) old new r
  power_weighed n at o new r k i j =
      weighed vars lets (FPow at x n) at o old new (loaded vars (map range_in lets) (map size_in lets) x)
      (measured vars (map range_in lets) (map size_in lets) x) mid r refl refl h.light h.nodes
      (power_measured (range a.pair) _ a.size _ n o h.measure.same_range h.measure.same_size k) i j

-- ---- two operands
-- the weights of an operation on two: those of both operands, and its own
loaded_two : (vars : List VarInfo) (lets : List Measure) (k : Two) (at : Span) (x y : Formula)
    → loaded vars (map range_in lets) (map size_in lets) (formula_of k at x y) ≡ (loaded vars (map range_in lets) (map size_in lets) x
    ++ loaded vars (map range_in lets) (map size_in lets) y) ++ (at, load_of vars (map range_in lets) (map size_in lets) (formula_of k at x y)) ∷ []
loaded_two vars lets Plus at x y = refl
loaded_two vars lets Minus at x y = refl
loaded_two vars lets Times at x y = refl

-- the measures of its nodes
measured_two : (vars : List VarInfo) (lets : List Measure) (k : Two) (at : Span) (x y : Formula)
    → measured vars (map range_in lets) (map size_in lets) (formula_of k at x y) ≡ (measured vars (map range_in lets) (map size_in lets) x
    ++ measured vars (map range_in lets) (map size_in lets) y) ++ (at, measure_of vars (map range_in lets) (map size_in lets) (formula_of k at x y)) ∷ []
measured_two vars lets Plus at x y = refl
measured_two vars lets Minus at x y = refl
measured_two vars lets Times at x y = refl

-- the measures of both operands' nodes, one after the other
both_nodes : (old first mid : List Measure) (xs ys : List (Span × Seen)) → map seen first ≡ map seen old ++ node_measures xs
    → map seen mid ≡ map seen first ++ node_measures ys → map seen mid ≡ map seen old ++ node_measures (xs ++ ys)
both_nodes old first mid xs ys g h = h ∙ rw (g, map-append) (append_assoc (map seen old) (node_measures xs) (node_measures ys))

-- a measure, where that range and that size are these
measured_as : (p q : Range) (s t : ℕ) (o : Option Measure) → p ≡ q → s ≡ t → MatchOption o (most < max (magnitude p) s) (λ m. IsMeasure m p s)
    → MatchOption o (most < max (magnitude q) t) (λ m. IsMeasure m q t)
measured_as p q s t o e f h = rw (e, f) at h

-- ---- two operands, the second weighed after the first
module _ (vars : List VarInfo) (lets : List Measure) (x y : Formula) (a b : Measure) (old first mid : List Measure)
    (g : IsWeighed vars lets x old first a) (h : IsWeighed vars lets y first mid b) where
  -- the measure of the operation on them
  has_two : (k : Two) (at : Span) (o : Option Measure)
      → MatchOption o (most < max (magnitude (range_of k (range a.pair) (range b.pair))) (bound_of k a.size b.size))
      (λ m. IsMeasure m (range_of k (range a.pair) (range b.pair)) (bound_of k a.size b.size)) → HasMeasure vars lets (formula_of k at x y) o
  has_two Plus at o z = measured_as (range_of Plus (range a.pair) (range b.pair)) _ (bound_of Plus a.size b.size) _ o
      (ap₂ (range_of Plus) g.measure.same_range h.measure.same_range) (ap₂ (bound_of Plus) g.measure.same_size h.measure.same_size) z
  has_two Minus at o z = measured_as (range_of Minus (range a.pair) (range b.pair)) _ (bound_of Minus a.size b.size) _ o
      (ap₂ (range_of Minus) g.measure.same_range h.measure.same_range) (ap₂ (bound_of Minus) g.measure.same_size h.measure.same_size) z
  has_two Times at o z = measured_as (range_of Times (range a.pair) (range b.pair)) _ (bound_of Times a.size b.size) _ o
      (ap₂ (range_of Times) g.measure.same_range h.measure.same_range) (ap₂ (bound_of Times) g.measure.same_size h.measure.same_size) z

  -- the case of a sum, difference or product in `weigh_in`: its node, after those of both operands
  pub two_weighed : (k : Two) (at : Span) (o : Option Measure) (new : List Measure) (r : Result Measure BoundStop)
      → MatchOption o (most < max (magnitude (range_of k (range a.pair) (range b.pair))) (bound_of k a.size b.size))
      (λ m. IsMeasure m (range_of k (range a.pair) (range b.pair)) (bound_of k a.size b.size))
      → IfOk r (λ w. (o ≡ Some w) × (new ≡ mid ++ w ∷ [])) → IfErr r (IsHeavyOrNoMemory at (tested o)) → Answers vars lets (formula_of k at x y) old new r
  two_weighed k at o new r z i j =
      let xs = loaded vars (map range_in lets) (map size_in lets) x in
      let ys = loaded vars (map range_in lets) (map size_in lets) y in
      let ms = measured vars (map range_in lets) (map size_in lets) x in
      let ns = measured vars (map range_in lets) (map size_in lets) y in
      weighed vars lets (formula_of k at x y) at o old new (xs ++ ys) (ms ++ ns) mid r (loaded_two vars lets k at x y) (measured_two vars lets k at x y)
      (light_both xs ys g.light h.light) (both_nodes old first mid ms ns g.nodes h.nodes) (has_two k at o z) i j

-- ---- what stops in an operand
-- what stops the weighing of the left operand stops that of the operation
pub first_stops : (vars : List VarInfo) (lets : List Measure) (k : Two) (at : Span) (x y : Formula) (s : BoundStop)
    → StopsWeighing (loaded vars (map range_in lets) (map size_in lets) x) s
    → StopsWeighing (loaded vars (map range_in lets) (map size_in lets) (formula_of k at x y)) s
first_stops vars lets k at x y s h = rw (loaded_two vars lets k at x y)
    (stop_before (loaded vars (map range_in lets) (map size_in lets) x ++ loaded vars (map range_in lets) (map size_in lets) y) _ s
    (stop_before (loaded vars (map range_in lets) (map size_in lets) x) (loaded vars (map range_in lets) (map size_in lets) y) s h))

-- what stops the weighing of the right operand stops that of the operation, where the left operand's weights are not too large
pub second_stops : (vars : List VarInfo) (lets : List Measure) (k : Two) (at : Span) (x y : Formula) (s : BoundStop)
    → AreLight (loaded vars (map range_in lets) (map size_in lets) x) → StopsWeighing (loaded vars (map range_in lets) (map size_in lets) y) s
    → StopsWeighing (loaded vars (map range_in lets) (map size_in lets) (formula_of k at x y)) s
second_stops vars lets k at x y s l h = rw (loaded_two vars lets k at x y)
    (stop_before (loaded vars (map range_in lets) (map size_in lets) x ++ loaded vars (map range_in lets) (map size_in lets) y) _ s
    (stop_behind (loaded vars (map range_in lets) (map size_in lets) x) (loaded vars (map range_in lets) (map size_in lets) y) s l h))

-- what stops the weighing of the only operand stops that of the operation
pub operand_stops : (vars : List VarInfo) (lets : List Measure) (e x : Formula) (at : Span) (s : BoundStop)
    → loaded vars (map range_in lets) (map size_in lets) e ≡ loaded vars (map range_in lets) (map size_in lets) x ++ (
      at,
      load_of vars (map range_in lets) (map size_in lets) e,
    ) ∷ [] → StopsWeighing (loaded vars (map range_in lets) (map size_in lets) x) s → StopsWeighing (loaded vars (map range_in lets) (map size_in lets) e) s
operand_stops vars lets e x at s q h = rw q (stop_before (loaded vars (map range_in lets) (map size_in lets) x) _ s h)

-- ---- the predicate
-- the first node whose weight is too large may be in the lets
pub lets_stop_pred : (vars v : List VarInfo) (lets ls : List Formula) (root : Formula) (s : BoundStop) → v ≡ vars → ls ≡ lets
    → StopsWeighing (loaded_lets v [] [] ls) s → StopsWeighing (loaded_pred vars lets root) s
lets_stop_pred vars v lets ls root s ev el h = rw (← ev, ← el) (stop_before (loaded_lets v [] [] ls) _ s h)

-- ---- a predicate, its variables and lets as they are passed, and the ranges and sizes of its lets
module _ (vars v : List VarInfo) (lets ls : List Formula) (root : Formula) (rs : List Range) (zs : List ℕ) where
  -- the first node whose weight is too large may be in the root
  pub pred_stops : (s : BoundStop)
      → v ≡ vars → ls ≡ lets → rs ≡ ranges_of_lets v [] ls → zs ≡ sizes_of_lets v [] ls → AreLight (loaded_lets v [] [] ls)
      → StopsWeighing (loaded v rs zs root) s → StopsWeighing (loaded_pred vars lets root) s
  pred_stops s ev el er es a h =
      let g : StopsWeighing (loaded v (ranges_of_lets v [] ls) (sizes_of_lets v [] ls) root) s = rw (er, es) at h in
      rw (← ev, ← el) (stop_behind (loaded_lets v [] [] ls) (loaded v (ranges_of_lets v [] ls) (sizes_of_lets v [] ls) root) s a g)

  -- no node of a predicate has too large a weight where none of its lets and none of its root has
  pub pred_light : v ≡ vars → ls ≡ lets
      → rs ≡ ranges_of_lets v [] ls → zs ≡ sizes_of_lets v [] ls → AreLight (loaded_lets v [] [] ls) → AreLight (loaded v rs zs root)
      → AreLight (loaded_pred vars lets root)
  pred_light ev el er es h g =
      let i : AreLight (loaded v (ranges_of_lets v [] ls) (sizes_of_lets v [] ls) root) = rw (er, es) at g in
      rw (← ev, ← el) (light_both (loaded_lets v [] [] ls) (loaded v (ranges_of_lets v [] ls) (sizes_of_lets v [] ls) root) h i)

  -- the measures of the lets' nodes, followed by those of the root's, are the measures of the predicate's nodes
  pub pred_nodes : (mid all : List Measure)
      → v ≡ vars → ls ≡ lets → rs ≡ ranges_of_lets v [] ls → zs ≡ sizes_of_lets v [] ls
      → map seen mid ≡ node_measures (measured_lets v [] [] ls) → map seen all ≡ map seen mid ++ node_measures (measured v rs zs root)
      → map seen all ≡ node_measures (measured_pred vars lets root)
  pred_nodes mid all ev el er es h g =
      let i : map seen all ≡ map seen mid ++ node_measures (measured v (ranges_of_lets v [] ls) (sizes_of_lets v [] ls) root) = rw (er, es) at g in
      rw (← ev, ← el) (i ∙ rw (h, map-append) refl)
