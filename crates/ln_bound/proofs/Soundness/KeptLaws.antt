-- What the exact trees of a predicate keep.
use Rattle.std.proofs.Common.{◌≡◌, ℕ, ◌+◌, ◌*◌, ◌≤◌, true, List, [], ◌∷◌, ◌++◌, length, map, refl, suc, ap, arith, ◌∙◌, sym}
use Rattle.std.specs.Prelude.{Some, slice_get}
use Rattle.std.proofs.lemmas.Bool.{and_parts}
use Rattle.ln_algebra.specs.Sizes.{one}
use Rattle.ln_algebra.specs.Tree.{Tree}
use Rattle.ln_interval.specs.Range.{IsOrdered}
use Rattle.ln_tree.specs.declared.items.Arg.{Arg}
use Rattle.ln_tree.specs.declared.expr.Expr.{Expr}
use Rattle.ln_tree.specs.declared.shape.VarInfo.{VarInfo}
use Rattle.ln_tree.specs.Fits.{is_fit, lets_fit}
use Rattle.ln_tree.specs.Formula.{formula, tree_of, node_count, node_counts}
use Rattle.ln_tree.specs.Kept.{is_pred}
use Rattle.ln_bound.specs.declared.fitted.Two.TheVariants.{Plus, Minus, Times}
use Rattle.ln_bound.specs.declared.fitted.Fitted.{Fitted}
use Rattle.ln_bound.specs.Light.{AreLight}
use Rattle.ln_bound.specs.Loads.{loaded_pred}
use Rattle.ln_bound.specs.Exact.{AreExact, IsExact}
use Rattle.ln_bound.specs.Sound.{AreSound, Sound, are_sound, is_sound, running}
use Rattle.ln_bound.specs.Typed.{Typed, TNum, TInput, TLet, TNeg, TTwo, TPow, pair, untyped, need, cost, costs}
use Rattle.ln_bound.specs.View.{typed}
use Rattle.ln_bound.specs.Ranges.{HaveRange, LetsHaveRange, let_ranges, ranges}
use Rattle.ln_bound.specs.Room.{HasRoom, HaveRoom, let_bounds}
use Rattle.ln_bound.specs.Value.{weight_over}
use Rattle.ln_bound.proofs.Soundness.ExactLaws.{exact_lets, exact_nodes, inputs_below, length_more, lets_ordered, pairs_more}
use Rattle.ln_bound.proofs.Measures.RoomLaws.{pred_room}
use Rattle.ln_bound.proofs.Soundness.SoundTests.{test_sound, test_sounds}
use Rattle.ln_bound.proofs.Soundness.WidthLaws.{le_test}
use Rattle.std.proofs.lemmas.List.{map-append}
use Rattle.std.specs.Prelude.{nat_le, ◌&&◌, ◌==◌}
use Rattle.ln_algebra.specs.Tree.{Num, Input, Name, Neg, Add, Sub, Mul, Pow}
use Rattle.ln_tree.specs.Arguments.{are_of}
use Rattle.ln_tree.specs.Formula.{Formula, FNum, FInput, FName, FNeg, FAdd, FSub, FMul, FPow, tree}

-- how many nodes an expression has
abbrev pub nodes_of : Tree → ℕ
nodes_of (Num c) = 1
nodes_of (Input v) = 1
nodes_of (Name j) = 1
nodes_of (Neg e) = nodes_of e + 1
nodes_of (Add e f) = nodes_of e + nodes_of f + 1
nodes_of (Sub e f) = nodes_of e + nodes_of f + 1
nodes_of (Mul e f) = nodes_of e + nodes_of f + 1
nodes_of (Pow e n) = nodes_of e + 1

-- how many nodes several have together
abbrev pub nodes_of_all : List Tree → ℕ
nodes_of_all [] = 0
nodes_of_all (e ∷ es) = nodes_of e + nodes_of_all es

-- the tree of a formula has as many nodes as the formula
pub nodes_same : (vars : List VarInfo) (f : Formula) → nodes_of (tree vars f) ≡ node_count f
nodes_same vars (FNum at c) = refl
nodes_same vars (FInput at a c) = refl
nodes_same vars (FName at j) = refl
nodes_same vars (FNeg at e) = ap (λ n. n + 1) (nodes_same vars e)
nodes_same vars (FAdd at e f) = let p = nodes_same vars e in let q = nodes_same vars f in omega (arith, p, q)
nodes_same vars (FSub at e f) = let p = nodes_same vars e in let q = nodes_same vars f in omega (arith, p, q)
nodes_same vars (FMul at e f) = let p = nodes_same vars e in let q = nodes_same vars f in omega (arith, p, q)
nodes_same vars (FPow at e n) = ap (λ n. n + 1) (nodes_same vars e)

-- the trees of expressions have as many nodes as their formulas
pub all_nodes_same : (vars : List VarInfo) (es : List Expr) → nodes_of_all (map (tree_of vars) es) ≡ node_counts (map formula es)
all_nodes_same vars [] = refl
all_nodes_same vars (e ∷ es) = let p = nodes_same vars (formula e) in let q = all_nodes_same vars es in omega (arith, p, q)

-- what a predicate keeps
pub record Parts (args : List Arg) (vars : List VarInfo) (lets : List Expr) (root : Expr) : Type 0 where
  pub few : length lets ≤ 64
  pub fit_lets : lets_fit (length vars) 0 (map (tree_of vars) lets) ≡ true
  pub fit_root : is_fit (length vars) (length lets) (tree_of vars root) ≡ true
  pub small : node_counts (map formula lets) + node_count (formula root) ≤ 2048

-- what passes the test of a predicate has at most 64 lets, expressions that fit, and at most 2,048 nodes
pub parts_of : (args : List Arg) (vars : List VarInfo) (lets : List Expr) (names : ℕ) (root : Expr)
    → is_pred args vars lets names root ≡ true → Parts args vars lets root
parts_of args vars lets names root h =
    let a = and_parts (are_of args vars && nat_le (length lets) 64 && (names == length lets)
    && lets_fit (length vars) 0 (map (tree_of vars) lets) && is_fit (length vars) (length lets) (tree_of vars root)) _ h in
    let b = and_parts (are_of args vars && nat_le (length lets) 64 && (names == length lets) && lets_fit (length vars) 0 (map (tree_of vars) lets)) _ a.0 in
    let c = and_parts (are_of args vars && nat_le (length lets) 64 && (names == length lets)) _ b.0 in
    let d = and_parts (are_of args vars && nat_le (length lets) 64) _ c.0 in
    let e = and_parts (are_of args vars) _ d.0 in
    record { few = le_test _ _ e.1; fit_lets = c.1; fit_root = b.1; small = le_test _ _ a.1 }

-- there are as many trees as expressions
pub length_trees : (vars : List VarInfo) (es : List Expr) → length (map (tree_of vars) es) ≡ length es
length_trees vars [] = refl
length_trees vars (e ∷ es) = ap suc (length_trees vars es)

-- the trees of the formulas of expressions are the trees of the expressions
pub trees_of_formulas : (vars : List VarInfo) (es : List Expr) → map (tree vars) (map formula es) ≡ map (tree_of vars) es
trees_of_formulas vars [] = refl
trees_of_formulas vars (e ∷ es) = ap (λ (ts : List Tree). tree_of vars e ∷ ts) (trees_of_formulas vars es)

-- a tree needs a node at least
some_node : (t : Typed) → 1 ≤ nodes_of (untyped t)
some_node (TNum c b w) = omega arith
some_node (TInput v b w) = omega arith
some_node (TLet j b w) = omega arith
some_node (TNeg t b w) = omega arith
some_node (TTwo Plus s t b w) = omega arith
some_node (TTwo Minus s t b w) = omega arith
some_node (TTwo Times s t b w) = omega arith
some_node (TPow t n b w) = omega arith

-- a tree needs no more places than it has nodes
pub need_nodes : (t : Typed) → need t ≤ nodes_of (untyped t)
need_nodes (TNum c b w) = omega arith
need_nodes (TInput v b w) = omega arith
need_nodes (TLet j b w) = omega arith
need_nodes (TNeg t b w) = let p = need_nodes t in omega (arith, p)
need_nodes (TTwo Plus s t b w) = let p = need_nodes s in let q = need_nodes t in let r = some_node s in omega (arith, p, q, r)
need_nodes (TTwo Minus s t b w) = let p = need_nodes s in let q = need_nodes t in let r = some_node s in omega (arith, p, q, r)
need_nodes (TTwo Times s t b w) = let p = need_nodes s in let q = need_nodes t in let r = some_node s in omega (arith, p, q, r)
need_nodes (TPow t n b w) = let p = need_nodes t in let r = some_node t in omega (arith, p, r)

-- a node takes at most 33 operations, where exponents are at most 16
pub cost_nodes : (n j : ℕ) (t : Typed) → is_fit n j (untyped t) ≡ true → cost t ≤ 33 * nodes_of (untyped t)
cost_nodes n j (TNum c b w) f = omega arith
cost_nodes n j (TInput v b w) f = omega arith
cost_nodes n j (TLet k b w) f = omega arith
cost_nodes n j (TNeg t b w) f = let p = cost_nodes n j t f in omega (arith, p)
cost_nodes n j (TTwo Plus s t b w) f =
    let g = and_parts (is_fit n j (untyped s)) _ f in
    let p = cost_nodes n j s g.0 in
    let q = cost_nodes n j t g.1 in
    omega (arith, p, q)
cost_nodes n j (TTwo Minus s t b w) f =
    let g = and_parts (is_fit n j (untyped s)) _ f in
    let p = cost_nodes n j s g.0 in
    let q = cost_nodes n j t g.1 in
    omega (arith, p, q)
cost_nodes n j (TTwo Times s t b w) f =
    let g = and_parts (is_fit n j (untyped s)) _ f in
    let p = cost_nodes n j s g.0 in
    let q = cost_nodes n j t g.1 in
    omega (arith, p, q)
cost_nodes n j (TPow t k b w) f =
    let g = and_parts (is_fit n j (untyped t)) _ f in
    let p = cost_nodes n j t g.0 in
    let q : k ≤ 16 = le_test k 16 g.1 in
    omega (arith, p, q)

-- lets take at most 33 operations for each node, where exponents are at most 16
pub costs_nodes : (n j : ℕ) (ts : List Typed) → lets_fit n j (map untyped ts) ≡ true → costs ts ≤ 33 * nodes_of_all (map untyped ts)
costs_nodes n j [] f = omega arith
costs_nodes n j (t ∷ ts) f =
    let g = and_parts (is_fit n j (untyped t)) _ f in
    let p = cost_nodes n j t g.0 in
    let q = costs_nodes n (suc j) ts g.1 in
    omega (arith, p, q)

-- ---- soundness
-- the running sizes of lets, and one more
running_more : (done : List Typed) (t : Typed) → running (done ++ t ∷ []) ≡ running done ++ weight_over one (running done) (untyped t) ∷ []
running_more done t = ap (let_bounds one []) (map-append untyped done (t ∷ [])) ∙ bounds_append [] (map untyped done) (untyped t)
  where
    bounds_append : (ms : List ℕ) (es : List Tree) (e : Tree)
        → let_bounds one ms (es ++ e ∷ []) ≡ let_bounds one ms es ++ weight_over one (let_bounds one ms es) e ∷ []
    bounds_append ms [] e = refl
    bounds_append ms (f ∷ es) e = bounds_append (ms ++ weight_over one ms f ∷ []) es e

module _ (vars : List VarInfo) (o : (v : ℕ) → IsOrdered (ranges vars v)) where
  exact_sound : (lets : List Typed) (t : Typed) → ((j : ℕ) (u : Typed) → slice_get lets j ≡ Some u → IsOrdered (pair u))
      → is_fit (length vars) (length lets) (untyped t) ≡ true → IsExact vars lets t → HaveRange vars (map pair lets) (untyped t)
      → HasRoom one (running lets) (untyped t) → nodes_of (untyped t) ≤ 2048 → Sound vars lets t
  exact_sound lets t l f h r s n =
      let p = need_nodes t in
      record { nodes = exact_nodes vars lets o l t (inputs_below (length vars) (length lets) (untyped t) f) h r; sizes = s; deep = omega (arith, p, n) }

  -- exact lets whose ranges and running sizes are within the limit are sound
  exact_lets_sound : (done ts : List Typed) → ((j : ℕ) (u : Typed) → slice_get done j ≡ Some u → IsOrdered (pair u))
      → lets_fit (length vars) (length done) (map untyped ts) ≡ true → AreExact vars done ts → LetsHaveRange vars (map pair done) (map untyped ts)
      → HaveRoom one (running done) (map untyped ts) → nodes_of_all (map untyped ts) ≤ 2048 → AreSound vars done ts
  exact_lets_sound done [] l f h r s n = tt
  exact_lets_sound done (t ∷ ts) l f h r s n =
      let g = and_parts (is_fit (length vars) (length done) (untyped t)) _ f in
      let few : lets_fit (length vars) (length (done ++ t ∷ [])) (map untyped ts) ≡ true = rw (length_more done t) g.1 in
      let small : LetsHaveRange vars (map pair (done ++ t ∷ [])) (map untyped ts) = rw (pairs_more vars done t h.0) r.1 in
      let room : HaveRoom one (running (done ++ t ∷ [])) (map untyped ts) = rw (running_more done t) s.1 in
      let more = lets_ordered vars o done (t ∷ []) l (h.0, tt) in
      (exact_sound done t l g.0 h.0 r.0 s.0 (omega (arith, n)), exact_lets_sound (done ++ t ∷ []) ts more few h.1 small room (omega (arith, n)))

-- the facts that a predicate's trees keep
pub record Kept (vars : List VarInfo) (lets : List Typed) (root : Typed) : Type 0 where
  pub few : length lets ≤ 64
  pub sound_lets : are_sound vars [] lets ≡ true
  pub sound_root : is_sound vars lets root ≡ true
  pub cheap : costs lets + cost root ≤ 131072

length_map : (ts : List Typed) → length (map untyped ts) ≡ length ts
length_map [] = refl
length_map (t ∷ ts) = ap suc (length_map ts)

same_length : (vars : List VarInfo) (ts : List Typed) (es : List Expr) → map untyped ts ≡ map (tree_of vars) es → length ts ≡ length es
same_length vars ts es h = sym (length_map ts) ∙ ap (λ (us : List Tree). length us) h ∙ length_trees vars es

-- the ranges and running sizes of a predicate's nodes are within the limit, in terms of its expressions
pub record Room (vars : List VarInfo) (es : List Expr) (root : Expr) : Type 0 where
  pub lets_ranges : LetsHaveRange vars [] (map (tree_of vars) es)
  pub root_range : HaveRange vars (let_ranges (ranges vars) [] (map (tree_of vars) es)) (tree_of vars root)
  pub lets_running : HaveRoom one [] (map (tree_of vars) es)
  pub root_running : HasRoom one (let_bounds one [] (map (tree_of vars) es)) (tree_of vars root)

-- where no load of a predicate is too large, its expressions have ranges and running sizes within the limit
pub room_of : (vars : List VarInfo) (es : List Expr) (root : Expr) → AreLight (loaded_pred vars (map formula es) (formula root)) → Room vars es root
room_of vars es root a =
    let r = pred_room vars (map formula es) (formula root) a in
    let e = trees_of_formulas vars es in
    record {
      lets_ranges = rw (← e) r.lets_ranges;
      root_range = rw (← e) r.root_range;
      lets_running = rw (← e) r.lets_running;
      root_running = rw (← e) r.root_running;
    }

-- the ranges of the root after the exact lets
pub root_range : (vars : List VarInfo) (es : List Expr) (root : Expr) (ts : List Typed) → Room vars es root
    → map untyped ts ≡ map (tree_of vars) es → AreExact vars [] ts → HaveRange vars (map pair ts) (tree_of vars root)
root_range vars es root ts r p h =
    let m : map pair ts ≡ let_ranges (ranges vars) [] (map untyped ts) = exact_lets vars [] ts h in
    rw (m, p) r.root_range

nothing_ordered : (j : ℕ) (u : Typed) → slice_get [] j ≡ Some u → IsOrdered (pair u)
nothing_ordered j u e = cc

-- the exact trees of a predicate whose nodes are within the limit keep what they are to keep
pub light_kept : (args : List Arg) (vars : List VarInfo) (es : List Expr) (names : ℕ) (root : Expr) (ts : List Typed) (t : Typed)
    → ((v : ℕ) → IsOrdered (ranges vars v)) → is_pred args vars es names root ≡ true → AreLight (loaded_pred vars (map formula es) (formula root))
    → map untyped ts ≡ map (tree_of vars) es → untyped t ≡ tree_of vars root → AreExact vars [] ts → IsExact vars ts t → Kept vars ts t
light_kept args vars es names root ts t o b a p q h g =
    let k = parts_of args vars es names root b in
    let r = room_of vars es root a in
    let n = same_length vars ts es p in
    let c : nodes_of_all (map untyped ts) ≡ node_counts (map formula es) = rw p (all_nodes_same vars es) in
    let d : nodes_of (untyped t) ≡ node_count (formula root) = rw q (nodes_same vars (formula root)) in
    let f : lets_fit (length vars) 0 (map untyped ts) ≡ true = rw p k.fit_lets in
    let u : is_fit (length vars) (length ts) (untyped t) ≡ true = rw (q, n) k.fit_root in
    let x : LetsHaveRange vars [] (map untyped ts) = rw p r.lets_ranges in
    let y : HaveRange vars (map pair ts) (untyped t) = rw q (root_range vars es root ts r p h) in
    let v : HaveRoom one [] (map untyped ts) = rw p r.lets_running in
    let w : HasRoom one (running ts) (untyped t) = rw (q, p) r.root_running in
    let i = costs_nodes (length vars) 0 ts f in
    let j = cost_nodes (length vars) (length ts) t u in
    let z = k.small in
    record {
      few = omega (arith, n, k.few);
      sound_lets = test_sounds vars [] ts (exact_lets_sound vars o [] ts nothing_ordered f h x v (omega (arith, c, z)));
      sound_root = test_sound vars ts t (exact_sound vars o ts t (lets_ordered vars o [] ts nothing_ordered h) u g y w (omega (arith, d, z)));
      cheap = omega (arith, c, d, i, j, z);
    }

-- ---- the program's lists
length_typed : (ts : List Fitted) → length (map typed ts) ≡ length ts
length_typed [] = refl
length_typed (t ∷ ts) = ap suc (length_typed ts)

-- the root may follow the exact lets
pub root_fit : (args : List Arg) (vars : List VarInfo) (es : List Expr) (names : ℕ) (root : Expr) (ts : List Fitted) → is_pred args vars es names root ≡ true
    → map untyped (map typed ts) ≡ map (tree_of vars) es → is_fit (length vars) (length ts) (tree_of vars root) ≡ true
root_fit args vars es names root ts k p =
    let n : length ts ≡ length es = sym (length_typed ts) ∙ same_length vars (map typed ts) es p in
    rw n (parts_of args vars es names root k).fit_root

-- what is kept of equal variables, with the length of the program's list
pub kept_of : (vars v : List VarInfo) (ts : List Fitted) (t : Typed) → v ≡ vars → Kept vars (map typed ts) t → (length ts ≤ 64) × Kept v (map typed ts) t
kept_of vars v ts t e k = (rw (← length_typed ts) k.few, rw e k)
