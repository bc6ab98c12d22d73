-- What the source's own block and the filter push is small: each node of an accepted predicate is.
use Rattle.std.proofs.Common.{◌≡◌, ◌⊎◌, inl, inr, ℕ, ◌<◌, ◌≤◌, zero, suc, List, [], ◌∷◌, ◌++◌, length, map, sym, ap, arith, subst}
use Rattle.std.proofs.lemmas.Bool.{cases_lt}
use Rattle.ln_base.specs.declared.span.Span.{Span}
use Rattle.ln_algebra.specs.Sizes.{two}
use Rattle.ln_algebra.specs.Tree.{Tree, Num, Input, Name, Neg, Add, Sub, Mul, Pow, inlined, inlined_after}
use Rattle.ln_algebra.specs.Weights.{weight}
use Rattle.ln_tree.specs.declared.pred.Pred.{Pred}
use Rattle.ln_tree.specs.declared.shape.VarInfo.{VarInfo}
use Rattle.ln_tree.specs.Formula.{Formula, FNum, FInput, FName, FNeg, FAdd, FSub, FMul, FPow, formula, tree}
use Rattle.ln_tree.specs.Table.{pred_of}
use Rattle.ln_bound.specs.declared.fitted.Width.{Width}
use Rattle.ln_bound.specs.Light as bound
use Rattle.ln_bound.specs.Typed.{Typed, untyped}
use Rattle.ln_bound.proofs.Measures.Fitting.{lower}
use Rattle.ln_poly.specs.Expansion.{HasTooManyTerms, HaveFewTerms, closed_lets, expanded, expanded_lets, powers}
use Rattle.ln_poly.specs.Ready.{AreLight, IsLight, LetsAreLight}
use Rattle.ln_poly.proofs.Loads.Sizing.{pred-expands}
use Rattle.ln_code.specs.Nodes.{IsLetNode, IsNodeOf}
use Rattle.ln_due.specs.Small.{IsSmall}
use Rattle.ln_due.proofs.Parts.Smallness.{light-low, zeroth-few}
use Rattle.ln_compile.specs.Accepted.{expanded_of, loaded_of}
use Rattle.ln_due.proofs.Derivatives.NodesIn.{NodeIn, node-in}

-- ---- few terms
-- of two lists
few-left : (n : ℕ) (xs ys : List (Span × Tree)) → HaveFewTerms n (xs ++ ys) → HaveFewTerms n xs
few-left n [] ys f = tt
few-left n (x ∷ xs) ys f = (f.0, few-left n xs ys f.1)

-- and the second
few-right : (n : ℕ) (xs ys : List (Span × Tree)) → HaveFewTerms n (xs ++ ys) → HaveFewTerms n ys
few-right n [] ys f = f
few-right n (x ∷ xs) ys f = few-right n xs ys f.1

-- one of the powers from the first on
power-few : (n : ℕ) (at : Span) (d : Tree) (k j : ℕ) → HaveFewTerms n (powers at d k) → j < k → HasTooManyTerms n (Pow d (suc j)) → ⊥
power-few n at d zero j f l h = absurd (omega (arith, l))
power-few n at d (suc k) j f l h = by_case (cases_lt j k) (λ g. power-few n at d k j (few-left n (powers at d k) ((at, Pow d (suc k)) ∷ []) f) g h) where
  by_case : (j < k) ⊎ (k ≤ j) → (j < k → ⊥) → ⊥
  by_case (inl g) ih = ih g
  by_case (inr g) ih =
      let q : j ≡ k = omega (arith, l, g) in
      (few-right n (powers at d k) ((at, Pow d (suc k)) ∷ []) f).0 (subst (λ (i : ℕ). HasTooManyTerms n (Pow d (suc i))) q h)

module _ (n : ℕ) (vars : List VarInfo) where
  -- a node that is expanded
  told : (d e : Tree) → (HasTooManyTerms n d → ⊥) → e ≡ d → HasTooManyTerms n e → ⊥
  told d e f q h = f (subst (λ (t : Tree). HasTooManyTerms n t) q h)

  -- of an operation on two expressions
  of-two : (a b : List (Span × Tree)) (at : Span) (d e : Tree) {X Y : Type 0} → HaveFewTerms n ((a ++ b) ++ (at, d) ∷ []) → (HaveFewTerms n a → X → ⊥)
      → (HaveFewTerms n b → Y → ⊥) → (X ⊎ Y) ⊎ (e ≡ d) → HasTooManyTerms n e → ⊥
  of-two a b at d e f x y (inl (inl k)) h = x (few-left n a b (few-left n (a ++ b) ((at, d) ∷ []) f)) k
  of-two a b at d e f x y (inl (inr k)) h = y (few-right n a b (few-left n (a ++ b) ((at, d) ∷ []) f)) k
  of-two a b at d e f x y (inr q) h = told d e (few-right n (a ++ b) ((at, d) ∷ []) f).0 q h

  -- each node of a formula has few terms, where all that is expanded has
  node-few : (ls : List Tree) (f : Formula) (e : Tree) → HaveFewTerms n (expanded vars ls f) → NodeIn ls (tree vars f) e → HasTooManyTerms n e → ⊥
  node-few ls (FNum at c) e f q h = told (inlined ls (tree vars (FNum at c))) e f.0 q h
  node-few ls (FInput at a c) e f q h = told (inlined ls (tree vars (FInput at a c))) e f.0 q h
  node-few ls (FName at j) e f q h = told (inlined ls (tree vars (FName at j))) e f.0 q h
  node-few ls (FNeg at g) e f (inl k) h = node-few ls g e (few-left n (expanded vars ls g) ((at, inlined ls (tree vars (FNeg at g))) ∷ []) f) k h
  node-few ls (FNeg at g) e f (inr q) h =
      told (inlined ls (tree vars (FNeg at g))) e (few-right n (expanded vars ls g) ((at, inlined ls (tree vars (FNeg at g))) ∷ []) f).0 q h
  node-few ls (FAdd at g i) e f k h = of-two (expanded vars ls g) (expanded vars ls i) at (inlined ls (tree vars (FAdd at g i))) e f
      (λ w j. node-few ls g e w j h) (λ w j. node-few ls i e w j h) k h
  node-few ls (FSub at g i) e f k h = of-two (expanded vars ls g) (expanded vars ls i) at (inlined ls (tree vars (FSub at g i))) e f
      (λ w j. node-few ls g e w j h) (λ w j. node-few ls i e w j h) k h
  node-few ls (FMul at g i) e f k h = of-two (expanded vars ls g) (expanded vars ls i) at (inlined ls (tree vars (FMul at g i))) e f
      (λ w j. node-few ls g e w j h) (λ w j. node-few ls i e w j h) k h
  node-few ls (FPow at g k) e f (inl i) h = node-few ls g e (few-left n (expanded vars ls g) (powers at (inlined ls (tree vars g)) k) f) i h
  node-few ls (FPow at g k) e f (inr (zero, l, q)) h = told (Pow (inlined ls (tree vars g)) 0) e (zeroth-few n (inlined ls (tree vars g))) q h
  node-few ls (FPow at g k) e f (inr (suc j, l, q)) h = told (Pow (inlined ls (tree vars g)) (suc j)) e
      (power-few n at (inlined ls (tree vars g)) k j (few-right n (expanded vars ls g) (powers at (inlined ls (tree vars g)) k) f) (omega (arith, l))) q h

-- ---- light nodes
module _ (n : ℕ) (w : ℕ → ℕ) (ls : List Tree) where
  -- what equals a light expression is light
  moved : (d e : Tree) → IsLight n w d → e ≡ d → IsLight n w e
  moved d e l q = subst (λ (t : Tree). IsLight n w t) (sym q) l

  -- each node of a light tree is light
  node-light : (d e : Tree) → AreLight n w ls d → NodeIn ls d e → IsLight n w e
  node-light (Num c) e l q = moved (inlined ls (Num c)) e l q
  node-light (Input v) e l q = moved (inlined ls (Input v)) e l q
  node-light (Name j) e l q = moved (inlined ls (Name j)) e l q
  node-light (Neg d) e l (inl h) = node-light d e l.0 h
  node-light (Neg d) e l (inr q) = moved (inlined ls (Neg d)) e l.1 q
  node-light (Add d f) e l (inl (inl h)) = node-light d e l.0 h
  node-light (Add d f) e l (inl (inr h)) = node-light f e l.1 h
  node-light (Add d f) e l (inr q) = moved (inlined ls (Add d f)) e l.2 q
  node-light (Sub d f) e l (inl (inl h)) = node-light d e l.0 h
  node-light (Sub d f) e l (inl (inr h)) = node-light f e l.1 h
  node-light (Sub d f) e l (inr q) = moved (inlined ls (Sub d f)) e l.2 q
  node-light (Mul d f) e l (inl (inl h)) = node-light d e l.0 h
  node-light (Mul d f) e l (inl (inr h)) = node-light f e l.1 h
  node-light (Mul d f) e l (inr q) = moved (inlined ls (Mul d f)) e l.2 q
  node-light (Pow d k) e l (inl h) = node-light d e l.0 h
  node-light (Pow d k) e l (inr (j, b, q)) =
      moved (Pow (inlined ls d) j) e (record { inputs = l.1.inputs; light = lower (weight w (inlined ls d)) j k b l.1.light }) q

-- ---- all nodes of a predicate
module _ (vars : List VarInfo) where
  -- each node of a formula after closed lets is small
  node-small : (ls : List Tree) (f : Formula) (t : Typed) (e : Tree) (v : Width) → untyped t ≡ tree vars f
      → HaveFewTerms (length vars) (expanded vars ls f) → AreLight (length vars) two ls (tree vars f) → NodeIn ls (untyped t) e → IsSmall (length vars) e
  node-small ls f t e v q few light h =
      let k : NodeIn ls (tree vars f) e = subst (λ (d : Tree). NodeIn ls d e) q h in
      record {
        few = λ many. node-few (length vars) vars ls f e few k many;
        low = λ m u mono. light-low (length vars) two e m u (λ k g. omega arith) (node-light (length vars) two ls (tree vars f) e light k) mono;
      }

  -- so is each node of the lets
  let-small : (done : List Tree) (fs : List Formula) (ts : List Typed) (e : Tree) (v : Width) → map untyped ts ≡ map (tree vars) fs
      → HaveFewTerms (length vars) (expanded_lets vars done fs) → LetsAreLight (length vars) two done (map (tree vars) fs)
      → IsLetNode done ts e v → IsSmall (length vars) e
  let-small done [] [] e v q few light h = absurd h
  let-small done (f ∷ fs) [] e v q few light h = absurd h
  let-small done [] (t ∷ ts) e v q few light h = cc
  let-small done (f ∷ fs) (t ∷ ts) e v q few light (inl h) =
      let p : untyped t ≡ tree vars f = cc in
      node-small done f t e v p (few-left (length vars) (expanded vars done f) (expanded_lets vars (done ++ inlined done (tree vars f) ∷ []) fs) few)
      light.0 (node-in done t e v h)
  let-small done (f ∷ fs) (t ∷ ts) e v q few light (inr h) =
      let p : untyped t ≡ tree vars f = cc in
      let r : map untyped ts ≡ map (tree vars) fs = cc in
      let s : done ++ inlined done (untyped t) ∷ [] ≡ done ++ inlined done (tree vars f) ∷ [] = ap (λ (d : Tree). done ++ inlined done d ∷ []) p in
      let-small (done ++ inlined done (tree vars f) ∷ []) fs ts e v r (few-right (length vars) (expanded vars done f)
      (expanded_lets vars (done ++ inlined done (tree vars f) ∷ []) fs) few) light.1 (subst (λ (ds : List Tree). IsLetNode ds ts e v) s h)

-- each node of an accepted predicate's sized trees is small
pub source-small : (p : Pred) (lets : List Typed) (root : Typed) (e : Tree) (v : Width)
    → map untyped lets ≡ map (tree p.shape.vars) (map formula p.lets) → untyped root ≡ tree p.shape.vars (formula p.root)
    → bound.AreLight (loaded_of (pred_of p)) → HaveFewTerms (length p.shape.vars) (expanded_of (pred_of p)) → IsNodeOf lets root e v
    → IsSmall (length p.shape.vars) e
source-small p lets root e v q r light few (inl h) =
    let l = pred-expands p.args p.shape.vars p.lets (length p.let_names) p.root p.kept light in
    let-small p.shape.vars [] (map formula p.lets) lets e v q (few-left (length p.shape.vars) (expanded_lets p.shape.vars [] (map formula p.lets))
    (expanded p.shape.vars (closed_lets p.shape.vars (map formula p.lets)) (formula p.root)) few) l.0 h
source-small p lets root e v q r light few (inr h) =
    let l = pred-expands p.args p.shape.vars p.lets (length p.let_names) p.root p.kept light in
    let ls : inlined_after [] (map untyped lets) ≡ closed_lets p.shape.vars (map formula p.lets) = ap (inlined_after []) q in
    node-small p.shape.vars (closed_lets p.shape.vars (map formula p.lets)) (formula p.root) root e v r (few-right (length p.shape.vars)
    (expanded_lets p.shape.vars [] (map formula p.lets)) (expanded p.shape.vars (closed_lets p.shape.vars (map formula p.lets)) (formula p.root)) few) l.1
    (subst (λ (ds : List Tree). NodeIn ds (untyped root) e) ls (node-in (inlined_after [] (map untyped lets)) root e v h))
