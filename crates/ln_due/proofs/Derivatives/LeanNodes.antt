-- What the blocks of derivatives push is small: each node of a lean tree is.
use Rattle.std.proofs.Common.{◌≡◌, inl, inr, ℕ, ◌<◌, ◌≤◌, zero, suc, List, [], ◌∷◌, get_or, refl, sym, ◌∙◌, ap, arith, ap₂}
use Rattle.std.proofs.Math.IntN.{◌+ℤ◌, ◌-ℤ◌, neg_ℤ}
use Rattle.std.proofs.lemmas.List.{length-map}
use Rattle.ln_algebra.specs.Coefficient.{Series, normal_coefficient, power, product}
use Rattle.ln_algebra.specs.Stage.{IsMonomial}
use Rattle.ln_algebra.specs.Terms.{Term}
use Rattle.ln_algebra.specs.Tree.{Tree, Num, Input, Name, Neg, Add, Sub, Mul, Pow, inlined}
use Rattle.ln_algebra.specs.Vector.{In}
use Rattle.ln_bound.specs.declared.fitted.Width.{Width}
use Rattle.ln_bound.specs.Typed.{Typed, untyped}
use Rattle.ln_poly.proofs.TermLists.Counting.{distinct-length, nonzero-in, vectors}
use Rattle.ln_poly.specs.Lean.{AreLean, AreUnder, IsLean}
use Rattle.ln_poly.specs.Lean.{exponent_of}
use Rattle.ln_code.specs.Nodes.{IsNodeOf}
use Rattle.ln_due.specs.Small.{IsSmall}
use Rattle.ln_due.proofs.Parts.Smallness.{small-same}
use Rattle.ln_due.proofs.Derivatives.NodesIn.{NodeIn, node-in}

-- the exponent of a variable
exponent-get : (v : ℕ) (m : List ℕ) → exponent_of v m ≡ get_or m v 0
exponent-get zero [] = refl
exponent-get (suc v) [] = refl
exponent-get zero (k ∷ m) = refl
exponent-get (suc v) (k ∷ m) = exponent-get v m

-- what is in a list whose exponents are under a top is under it
under-at : (top : ℕ → ℕ) (f : List Term) (m : List ℕ) (v : ℕ) → AreUnder top f → In (vectors f) m → exponent_of v m ≤ top v
under-at top [] m v u i = absurd i
under-at top (t ∷ f) m v u (inl q) = rw q (u.0 v)
under-at top (t ∷ f) m v u (inr i) = under-at top f m v u.1 i

-- a lean expression is small
lean-small : (n count : ℕ) (top : ℕ → ℕ) (e : Tree) → count ≤ 1024 → ((v : ℕ) → top v < 128) → IsLean n count top e → IsSmall n e
lean-small n count top e c u l = record {
  few = λ h. absurd (omega (
    arith,
    distinct-length h.vectors (vectors l.terms) h.distinct (λ m i. inside m (h.monomials m i)),
    h.many,
    length-map l.terms (λ (t : Term). t.exponents),
    l.few,
    c,
  ));
  low = λ m v k. omega (arith, under-at top l.terms m v l.under (inside m k), u v, exponent-get v m);
} where
  inside : (m : List ℕ) → IsMonomial n e m → In (vectors l.terms) m
  inside m k = nonzero-in l.terms m (λ z. k.nonzero (sym (l.normal.coefficients m k.size) ∙ z))

-- ---- without lets
-- putting no lets in place changes no coefficient
closed-series : (e : Tree) → normal_coefficient (inlined [] e) ≡ normal_coefficient e
closed-series (Num c) = refl
closed-series (Input v) = refl
closed-series (Name j) = refl
closed-series (Neg e) = ap (λ (u : Series). (λ a. neg_ℤ (u a))) (closed-series e)
closed-series (Add d e) = ap₂ (λ (u v : Series). (λ a. u a +ℤ v a)) (closed-series d) (closed-series e)
closed-series (Sub d e) = ap₂ (λ (u v : Series). (λ a. u a -ℤ v a)) (closed-series d) (closed-series e)
closed-series (Mul d e) = ap₂ product (closed-series d) (closed-series e)
closed-series (Pow e k) = ap (λ (u : Series). power u k) (closed-series e)

module _ (n count : ℕ) (top : ℕ → ℕ) (few : count ≤ 1024) (low : (v : ℕ) → top v < 128) where
  -- a node that is lean but for the lets
  here : (d e : Tree) → IsLean n count top d → e ≡ inlined [] d → IsSmall n e
  here d e l q = small-same n e d (λ m. ap (λ (t : Tree). normal_coefficient t m) q ∙ ap (λ (u : Series). u m) (closed-series d))
      (lean-small n count top d few low l)

  -- each node is small
  lean-node : (d e : Tree) → AreLean n count top d → NodeIn [] d e → IsSmall n e
  lean-node (Num c) e l q = here (Num c) e l q
  lean-node (Input v) e l q = here (Input v) e l q
  lean-node (Name j) e l q = here (Name j) e l q
  lean-node (Neg d) e l (inl h) = lean-node d e l.0 h
  lean-node (Neg d) e l (inr q) = here (Neg d) e l.1 q
  lean-node (Add d f) e l (inl (inl h)) = lean-node d e l.0 h
  lean-node (Add d f) e l (inl (inr h)) = lean-node f e l.1 h
  lean-node (Add d f) e l (inr q) = here (Add d f) e l.2 q
  lean-node (Sub d f) e l (inl (inl h)) = lean-node d e l.0 h
  lean-node (Sub d f) e l (inl (inr h)) = lean-node f e l.1 h
  lean-node (Sub d f) e l (inr q) = here (Sub d f) e l.2 q
  lean-node (Mul d f) e l (inl (inl h)) = lean-node d e l.0 h
  lean-node (Mul d f) e l (inl (inr h)) = lean-node f e l.1 h
  lean-node (Mul d f) e l (inr q) = here (Mul d f) e l.2 q
  lean-node (Pow d k) e l (inl h) = lean-node d e l.0 h
  lean-node (Pow d k) e l (inr (j, b, q)) = here (Pow d j) e (l.1 j b) q

  -- so is each node of a lean typed tree without lets
  pub lean-nodes : (t : Typed) (e : Tree) (w : Width) → AreLean n count top (untyped t) → IsNodeOf [] t e w → IsSmall n e
  lean-nodes t e w l (inl h) = absurd h
  lean-nodes t e w l (inr h) = lean-node (untyped t) e l (node-in [] t e w h)
