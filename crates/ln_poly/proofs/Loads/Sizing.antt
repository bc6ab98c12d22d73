-- Where no range and no size of a predicate is too large, its closed trees may be expanded in 128 bits: all that this needs is that each variable
-- counts at least 2, and in a size it does.
use Rattle.std.proofs.Common.{◌≡◌, ℕ, ◌≤◌, true, suc, refl, sym, ◌∙◌, ap, arith, subst, All, List, [], ◌∷◌, ◌++◌, length, map}
use Rattle.std.proofs.lemmas.Bool.{and_parts}
use Rattle.ln_algebra.specs.Vector.{total_degree}
use Rattle.ln_tree.specs.Exps.{vector}
use Rattle.ln_algebra.specs.Tree.{Tree, inlined, inlined_after}
use Rattle.ln_algebra.specs.Weights.{weight, weighted_sum}
use Rattle.ln_bound.specs.Light.{most, AreLight as HaveWeights, weighed_pred}
use Rattle.ln_bound.proofs.Measures.Fitting.{light_parts}
use Rattle.ln_tree.specs.declared.shape.VarInfo.{VarInfo}
use Rattle.ln_tree.specs.Fits.{is_fit, lets_fit}
use Rattle.ln_tree.specs.Formula.{FAdd, FInput, FMul, FName, FNeg, FNum, FPow, FSub, Formula, formula, tree}
use Rattle.ln_tree.specs.declared.expr.Expr.{Expr}
use Rattle.ln_tree.specs.declared.items.Arg.{Arg}
use Rattle.ln_tree.specs.Kept.{is_pred}
use Rattle.ln_bound.proofs.Soundness.KeptLaws.{parts_of}
use Rattle.ln_bound.specs.Value.{weights}
use Rattle.ln_poly.specs.Expansion.{IsNormal, closed_lets, closed_root}
use Rattle.ln_poly.specs.Sparse.{Sparse, terms_of}
use Rattle.ln_poly.proofs.Expansions.Lets.{pred-fit, root-degrees, root-weight}
use Rattle.ln_poly.specs.Ready.{AreLight, IsLight, LetsAreLight}
use Rattle.ln_poly.proofs.Loads.Lightness.{AreClosed, closed-more, inputs-inlined, lets-closed, next-weights, weight-inlined, whole-light}
use Rattle.ln_interval.specs.Range.{Range}
use Rattle.ln_algebra.specs.Sizes.{two}
use Rattle.ln_bound.specs.Ranges.{range_over, ranges}
use Rattle.ln_bound.specs.Loads.{load_of, loaded, loaded_lets, loaded_pred, ranges_of_lets, sizes_of_lets}

module _ (vars : List VarInfo) where
  -- one node
  light-node : (ps : List Range) (k : ℕ) (ts : List Tree) (f : Formula) → AreClosed (length vars) ts → is_fit (length vars) k (tree vars f) ≡ true
      → load_of vars ps (map (weight two) ts) f ≤ most → IsLight (length vars) two (inlined ts (tree vars f))
  light-node ps k ts f a g l = record {
    inputs = inputs-inlined (length vars) k ts (tree vars f) a g;
    light = let e = weight-inlined two ts (tree vars f) in omega (arith, l, e);
  }

  -- all nodes of an expression
  pub light-nodes : (ps : List Range) (k : ℕ) (ts : List Tree) (f : Formula) → AreClosed (length vars) ts → is_fit (length vars) k (tree vars f) ≡ true
      → HaveWeights (loaded vars ps (map (weight two) ts) f) → AreLight (length vars) two ts (tree vars f)
  light-nodes ps k ts (FNum at c) a g l = light-node ps k ts (FNum at c) a g l.0
  light-nodes ps k ts (FInput at i c) a g l = light-node ps k ts (FInput at i c) a g l.0
  light-nodes ps k ts (FName at j) a g l = light-node ps k ts (FName at j) a g l.0
  light-nodes ps k ts (FNeg at e) a g l =
      let p = light_parts (loaded vars ps (map (weight two) ts) e) _ l in
      (light-nodes ps k ts e a g p.0, light-node ps k ts (FNeg at e) a g p.1.0)
  light-nodes ps k ts (FAdd at e f) a g l =
      let p = light_parts (loaded vars ps (map (weight two) ts) e ++ loaded vars ps (map (weight two) ts) f) _ l in
      let q = light_parts (loaded vars ps (map (weight two) ts) e) (loaded vars ps (map (weight two) ts) f) p.0 in
      let h = and_parts (is_fit (length vars) k (tree vars e)) _ g in
      (light-nodes ps k ts e a h.0 q.0, light-nodes ps k ts f a h.1 q.1, light-node ps k ts (FAdd at e f) a g p.1.0)
  light-nodes ps k ts (FSub at e f) a g l =
      let p = light_parts (loaded vars ps (map (weight two) ts) e ++ loaded vars ps (map (weight two) ts) f) _ l in
      let q = light_parts (loaded vars ps (map (weight two) ts) e) (loaded vars ps (map (weight two) ts) f) p.0 in
      let h = and_parts (is_fit (length vars) k (tree vars e)) _ g in
      (light-nodes ps k ts e a h.0 q.0, light-nodes ps k ts f a h.1 q.1, light-node ps k ts (FSub at e f) a g p.1.0)
  light-nodes ps k ts (FMul at e f) a g l =
      let p = light_parts (loaded vars ps (map (weight two) ts) e ++ loaded vars ps (map (weight two) ts) f) _ l in
      let q = light_parts (loaded vars ps (map (weight two) ts) e) (loaded vars ps (map (weight two) ts) f) p.0 in
      let h = and_parts (is_fit (length vars) k (tree vars e)) _ g in
      (light-nodes ps k ts e a h.0 q.0, light-nodes ps k ts f a h.1 q.1, light-node ps k ts (FMul at e f) a g p.1.0)
  light-nodes ps k ts (FPow at e m) a g l =
      let p = light_parts (loaded vars ps (map (weight two) ts) e) _ l in
      let h = and_parts (is_fit (length vars) k (tree vars e)) _ g in
      (light-nodes ps k ts e a h.0 p.0, light-node ps k ts (FPow at e m) a g p.1.0)

  lets-weigh : (done : List Tree) (fs : List Formula)
      → map (weight two) (inlined_after done (map (tree vars) fs)) ≡ sizes_of_lets vars (map (weight two) done) fs
  lets-weigh done [] = refl
  lets-weigh done (f ∷ fs) =
      lets-weigh (done ++ inlined done (tree vars f) ∷ []) fs ∙ ap (λ ws. sizes_of_lets vars ws fs) (next-weights two done (tree vars f))

  -- fit lets after closed ones are light where the load of none of their nodes is too large
  pub light-lets : (ps : List Range) (k : ℕ) (done : List Tree) (fs : List Formula) → AreClosed (length vars) done
      → lets_fit (length vars) k (map (tree vars) fs) ≡ true → HaveWeights (loaded_lets vars ps (map (weight two) done) fs)
      → LetsAreLight (length vars) two done (map (tree vars) fs)
  light-lets ps k done [] a g l = tt
  light-lets ps k done (f ∷ fs) a g l =
      let h = and_parts (is_fit (length vars) k (tree vars f)) _ g in
      let p = light_parts (loaded vars ps (map (weight two) done) f) _ l in
      let i = inputs-inlined (length vars) k done (tree vars f) a h.0 in
      let more : List Tree = done ++ inlined done (tree vars f) ∷ [] in
      let qs = ps ++ range_over (ranges vars) ps (tree vars f) ∷ [] in
      let rest : HaveWeights (loaded_lets vars qs (map (weight two) more) fs) =
      subst (λ ws. HaveWeights (loaded_lets vars qs ws fs)) (sym (next-weights two done (tree vars f))) p.1 in
      (light-nodes ps k done f a h.0 p.0, light-lets qs (suc k) more fs (closed-more (length vars) done (inlined done (tree vars f)) a i) h.1 rest)

  -- the lets and the root of a predicate no node of which has too large a range or size
  pub light-pred : (k : ℕ) (lets : List Formula) (root : Formula) → lets_fit (length vars) 0 (map (tree vars) lets) ≡ true
      → is_fit (length vars) k (tree vars root) ≡ true → HaveWeights (loaded_pred vars lets root)
      → LetsAreLight (length vars) two [] (map (tree vars) lets) × AreLight (length vars) two (closed_lets vars lets) (tree vars root)
  light-pred k lets root g h l =
      let p = light_parts (loaded_lets vars [] [] lets) _ l in
      let closed = lets-closed (length vars) 0 [] (map (tree vars) lets) tt g in (
        light-lets [] 0 [] lets tt g p.0,
        light-nodes (ranges_of_lets vars [] lets) k (closed_lets vars lets) root closed h
            (subst (λ ws. HaveWeights (loaded vars (ranges_of_lets vars [] lets) ws root)) (sym (lets-weigh [] lets)) p.1),
      )

-- the w-weighted sum of the normal polynomial is within the limit where no node's weight is too large
pub light-root : (vars : List VarInfo) (k : ℕ) (lets : List Formula) (root : Formula) (f : Sparse)
    → lets_fit (length vars) 0 (map (tree vars) lets) ≡ true → is_fit (length vars) k (tree vars root) ≡ true → HaveWeights (weighed_pred vars lets root)
    → IsNormal (length vars) (closed_root vars lets root) f → weighted_sum (weights vars) (terms_of (length vars) f) ≤ most
light-root vars k lets root f g h l p =
    root-weight (length vars) (weights vars) (closed_root vars lets root) f (whole-light vars k lets root g h l) p

-- no degree is above 126 where the size is within the limit
pub size-degrees : (n : ℕ) (e : Tree) (f : Sparse) → IsLight n two e → IsNormal n e f → All (λ t. total_degree (vector n t.0) ≤ 126) f
size-degrees n e f l p = root-degrees n two e f (λ v h. omega arith) l p

-- ---- what holds of a predicate
-- its nodes may be expanded where no load exceeds the limit
pub pred-expands : (args : List Arg) (vars : List VarInfo) (es : List Expr) (names : ℕ) (root : Expr)
    → is_pred args vars es names root ≡ true → HaveWeights (loaded_pred vars (map formula es) (formula root))
    → LetsAreLight (length vars) two [] (map (tree vars) (map formula es))
    × AreLight (length vars) two (closed_lets vars (map formula es)) (tree vars (formula root))
pred-expands args vars es names root k l =
    light-pred vars (length es) (map formula es) (formula root) (pred-fit args vars es names root k) (parts_of args vars es names root k).fit_root l
