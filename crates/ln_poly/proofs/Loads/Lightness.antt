-- Where no node of a predicate has too large a weight, its closed root hasn't.
use Rattle.std.proofs.Common.{◌≡◌, ℕ, ◌^◌, ◌≤◌, true, zero, suc, refl, ◌∙◌, ap, arith, pos, List, [], ◌∷◌, ◌++◌, length, map}
use Rattle.std.specs.Prelude.{slice_index_or}
use Rattle.std.proofs.lemmas.Bool.{and_parts}
use Rattle.std.proofs.lemmas.List.{map-append}
use Rattle.ln_algebra.specs.Tree.{Add, Input, InputsBelow, Mul, Name, Neg, Num, Pow, Sub, Tree, inlined, inlined_after}
use Rattle.ln_algebra.specs.Weights.{weight}
use Rattle.ln_bound.specs.Light.{most, weight_of, weighed, weighed_lets, weighed_pred, let_weights, AreLight as HaveWeights}
use Rattle.ln_bound.specs.Value.{weight_over, weights}
use Rattle.ln_bound.proofs.Measures.Fitting.{light_parts}
use Rattle.ln_bound.proofs.Soundness.WidthLaws.{lt_test}
use Rattle.ln_tree.specs.declared.shape.VarInfo.{VarInfo}
use Rattle.ln_tree.specs.Fits.{is_fit, lets_fit}
use Rattle.ln_tree.specs.Formula.{FAdd, FInput, FMul, FName, FNeg, FNum, FPow, FSub, Formula, tree}
use Rattle.ln_poly.specs.Expansion.{closed_lets, closed_root}
use Rattle.ln_poly.specs.Ready.{IsLight}

named : (w : ℕ → ℕ) (ts : List Tree) (j : ℕ) → weight w (slice_index_or ts j (Num (pos 0))) ≡ slice_index_or (map (weight w) ts) j 0
named w [] j = refl
named w (t ∷ ts) zero = refl
named w (t ∷ ts) (suc j) = named w ts j

-- the weight of a tree with its lets substituted is its weight over the weights of the lets
pub weight-inlined : (w : ℕ → ℕ) (ts : List Tree) (e : Tree) → weight w (inlined ts e) ≡ weight_over w (map (weight w) ts) e
weight-inlined w ts (Num c) = refl
weight-inlined w ts (Input v) = refl
weight-inlined w ts (Name j) = named w ts j
weight-inlined w ts (Neg e) = weight-inlined w ts e
weight-inlined w ts (Add e f) = let p = weight-inlined w ts e in let q = weight-inlined w ts f in rw (p, q) refl
weight-inlined w ts (Sub e f) = let p = weight-inlined w ts e in let q = weight-inlined w ts f in rw (p, q) refl
weight-inlined w ts (Mul e f) = let p = weight-inlined w ts e in let q = weight-inlined w ts f in rw (p, q) refl
weight-inlined w ts (Pow e n) = ap (λ z. z ^ n) (weight-inlined w ts e)

-- each of the closed lets is over n variables
abbrev pub AreClosed : ℕ → List Tree → Type 0
AreClosed n [] = Unit {0}
AreClosed n (t ∷ ts) = InputsBelow n t × AreClosed n ts

-- the closed let at a place is over n variables, and so is the number 0 that is taken past the last one
pub closed-at : (n : ℕ) (ts : List Tree) (j : ℕ) → AreClosed n ts → InputsBelow n (slice_index_or ts j (Num (pos 0)))
closed-at n [] j c = tt
closed-at n (t ∷ ts) zero c = c.0
closed-at n (t ∷ ts) (suc j) c = closed-at n ts j c.1

-- closed lets over n variables with one more of them are over n variables
pub closed-more : (n : ℕ) (ts : List Tree) (t : Tree) → AreClosed n ts → InputsBelow n t → AreClosed n (ts ++ t ∷ [])
closed-more n [] t c i = (i, tt)
closed-more n (u ∷ ts) t c i = (c.0, closed-more n ts t c.1 i)

-- a fit tree with its lets substituted is over n variables
pub inputs-inlined : (n k : ℕ) (ts : List Tree) (e : Tree) → AreClosed n ts → is_fit n k e ≡ true → InputsBelow n (inlined ts e)
inputs-inlined n k ts (Num c) a f = tt
inputs-inlined n k ts (Input v) a f = lt_test v n f
inputs-inlined n k ts (Name j) a f = closed-at n ts j a
inputs-inlined n k ts (Neg e) a f = inputs-inlined n k ts e a f
inputs-inlined n k ts (Add d e) a f = let g = and_parts (is_fit n k d) _ f in (inputs-inlined n k ts d a g.0, inputs-inlined n k ts e a g.1)
inputs-inlined n k ts (Sub d e) a f = let g = and_parts (is_fit n k d) _ f in (inputs-inlined n k ts d a g.0, inputs-inlined n k ts e a g.1)
inputs-inlined n k ts (Mul d e) a f = let g = and_parts (is_fit n k d) _ f in (inputs-inlined n k ts d a g.0, inputs-inlined n k ts e a g.1)
inputs-inlined n k ts (Pow e m) a f = let g = and_parts (is_fit n k e) _ f in inputs-inlined n k ts e a g.0

-- closed lets are over n variables where each is fit after those before it
pub lets-closed : (n k : ℕ) (done ts : List Tree) → AreClosed n done → lets_fit n k ts ≡ true → AreClosed n (inlined_after done ts)
lets-closed n k done [] a g = a
lets-closed n k done (t ∷ ts) a g =
    let h = and_parts (is_fit n k t) _ g in
    lets-closed n (suc k) (done ++ inlined done t ∷ []) ts (closed-more n done (inlined done t) a (inputs-inlined n k done t a h.0)) h.1

-- the weights of closed lets, with one let more
pub next-weights : (w : ℕ → ℕ) (ts : List Tree) (e : Tree)
    → map (weight w) (ts ++ inlined ts e ∷ []) ≡ map (weight w) ts ++ weight_over w (map (weight w) ts) e ∷ []
next-weights w ts e = map-append (weight w) ts (inlined ts e ∷ []) ∙ ap (λ z. map (weight w) ts ++ z ∷ []) (weight-inlined w ts e)

-- ---- the root
lets-weigh : (vars : List VarInfo) (done : List Tree) (fs : List Formula)
    → map (weight (weights vars)) (inlined_after done (map (tree vars) fs)) ≡ let_weights vars (map (weight (weights vars)) done) fs
lets-weigh vars done [] = refl
lets-weigh vars done (f ∷ fs) = lets-weigh vars (done ++ inlined done (tree vars f) ∷ []) fs
    ∙ ap (λ ws. let_weights vars ws fs) (next-weights (weights vars) done (tree vars f))

root-weighed : (vars : List VarInfo) (ws : List ℕ) (f : Formula) → HaveWeights (weighed vars ws f) → weight_of vars ws f ≤ most
root-weighed vars ws (FNum at c) l = l.0
root-weighed vars ws (FInput at i c) l = l.0
root-weighed vars ws (FName at j) l = l.0
root-weighed vars ws (FNeg at e) l = (light_parts (weighed vars ws e) _ l).1.0
root-weighed vars ws (FAdd at e f) l = (light_parts (weighed vars ws e ++ weighed vars ws f) _ l).1.0
root-weighed vars ws (FSub at e f) l = (light_parts (weighed vars ws e ++ weighed vars ws f) _ l).1.0
root-weighed vars ws (FMul at e f) l = (light_parts (weighed vars ws e ++ weighed vars ws f) _ l).1.0
root-weighed vars ws (FPow at e m) l = (light_parts (weighed vars ws e) _ l).1.0

-- where no node of a predicate has too large a weight, its closed root hasn't
pub whole-light : (vars : List VarInfo) (k : ℕ) (lets : List Formula) (root : Formula) → lets_fit (length vars) 0 (map (tree vars) lets) ≡ true
    → is_fit (length vars) k (tree vars root) ≡ true → HaveWeights (weighed_pred vars lets root)
    → IsLight (length vars) (weights vars) (closed_root vars lets root)
whole-light vars k lets root g h l = record {
  inputs = inputs-inlined (length vars) k (closed_lets vars lets) (tree vars root) (lets-closed (length vars) 0 [] (map (tree vars) lets) tt g) h;
  light = omega (
    arith,
    root-weighed vars (let_weights vars [] lets) root (light_parts (weighed_lets vars [] lets) _ l).1,
    weight-inlined (weights vars) (closed_lets vars lets) (tree vars root),
    ap (λ ws. weight_over (weights vars) ws (tree vars root)) (lets-weigh vars [] lets),
  );
}
