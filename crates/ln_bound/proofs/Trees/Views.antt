-- What the views of nodes say.
use Rattle.std.proofs.Common.{◌≡◌, ℕ, ◌<◌, List, [], ◌∷◌, length, map, refl, zero, suc, ap, ap₂, arith, get_or, ◌∙◌, sym}
use Rattle.std.specs.Prelude.{Option, Some, None, slice_get}
use Rattle.ln_bound.specs.Exact.{IsOfLet}
use Rattle.ln_bound.specs.declared.fitted.Width.{Width}
use Rattle.ln_bound.specs.declared.fitted.Two.{Two}
use Rattle.ln_bound.specs.Widths.{least, wider}
use Rattle.ln_bound.specs.declared.fitted.Fitted.{Fitted}
use Rattle.ln_bound.specs.declared.fitted.FitOp.{FitOp}
use Rattle.ln_bound.specs.declared.fitted.FitOp.TheVariants.{Num, Input, Let, Neg', Add', Sub', Mul', Pow'}
use Rattle.ln_interval.specs.Range.{Range, magnitude, opposite, power}
use Rattle.ln_interval.specs.View.{range}
use Rattle.ln_bound.specs.Typed.{Typed, TNeg, TPow, TTwo, pair, width, range_of}
use Rattle.ln_bound.specs.View.{op_typed, typed}

-- the tree of a node's operation with a range has that range at its root
pub pair_here : (op : FitOp) (p : Range) (w : Width) → pair (op_typed op p w) ≡ p
pair_here (Num c) b w = refl
pair_here (Input v) b w = refl
pair_here (Let j) b w = refl
pair_here (Neg' p x c u) b w = refl
pair_here (Add' p x c u q y d v) b w = refl
pair_here (Sub' p x c u q y d v) b w = refl
pair_here (Mul' p x c u q y d v) b w = refl
pair_here (Pow' p x c u n) b w = refl

-- the tree of a node's operation with a width has that width at its root
pub width_here : (op : FitOp) (p : Range) (w : Width) → width (op_typed op p w) ≡ w
width_here (Num c) b w = refl
width_here (Input v) b w = refl
width_here (Let j) b w = refl
width_here (Neg' p x c u) b w = refl
width_here (Add' p x c u q y d v) b w = refl
width_here (Sub' p x c u q y d v) b w = refl
width_here (Mul' p x c u q y d v) b w = refl
width_here (Pow' p x c u n) b w = refl

-- the pair of a node's tree is the node's, and so is the width
pub pair_typed : (t : Fitted) → pair (typed t) ≡ range t.pair
pair_typed t = pair_here t.op (range t.pair) t.width

-- the width of a node's tree is the node's
pub width_typed : (t : Fitted) → width (typed t) ≡ t.width
width_typed t = width_here t.op (range t.pair) t.width

-- ---- an operation on two nodes, with its range p and its width w
module _ (k : Two) (x y : Fitted) (p : Range) (w u l : Width) where
  -- its range, from those of the operands' trees
  two_pair : p ≡ range_of k (range x.pair) (range y.pair) → p ≡ range_of k (pair (typed x)) (pair (typed y))
  two_pair ep = ep ∙ ap₂ (range_of k) (sym (pair_typed x)) (sym (pair_typed y))

  -- its width, from those of the operands' trees
  two_width : w ≡ wider u l → u ≡ wider x.width y.width → l ≡ least (magnitude p)
      → w ≡ wider (wider (width (typed x)) (width (typed y))) (least (magnitude p))
  two_width ew eu el = ew ∙ ap₂ wider (eu ∙ ap₂ wider (sym (width_typed x)) (sym (width_typed y))) el

  -- the node of an operation on two
  pub two_made : (m : Two) (s t : Typed) → k ≡ m → s ≡ typed x → t ≡ typed y → p ≡ range_of k (range x.pair) (range y.pair) → w ≡ wider u l
      → u ≡ wider x.width y.width → l ≡ least (magnitude p)
      → TTwo m s t p w ≡ TTwo k (typed x) (typed y) (range_of k (pair (typed x)) (pair (typed y)))
      (wider (wider (width (typed x)) (width (typed y))) (least (magnitude (range_of k (pair (typed x)) (pair (typed y))))))
  two_made m s t ek es et ep ew eu el = rw (← ek, es, et, two_width ew eu el, two_pair ep) refl

-- the node of an opposite
pub opposite_made : (x : Fitted) (s : Typed) (p : Range) (w l : Width) → s ≡ typed x → p ≡ opposite (range x.pair) → w ≡ wider x.width l
    → l ≡ least (magnitude p)
    → TNeg s p w ≡ TNeg (typed x) (opposite (pair (typed x))) (wider (width (typed x)) (least (magnitude (opposite (pair (typed x))))))
opposite_made x s p w l es ep ew el =
    let e : p ≡ opposite (pair (typed x)) = ep ∙ ap opposite (sym (pair_typed x)) in
    let f : w ≡ wider (width (typed x)) (least (magnitude p)) = ew ∙ ap₂ wider (sym (width_typed x)) el in
    rw (es, f, e) refl

-- the node of a power
pub power_made : (x : Fitted) (n : ℕ) (s : Typed) (p : Range) (w l : Width) → s ≡ typed x → p ≡ power (range x.pair) n → w ≡ wider x.width l
    → l ≡ least (magnitude p)
    → TPow s n p w ≡ TPow (typed x) n (power (pair (typed x)) n) (wider (width (typed x)) (least (magnitude (power (pair (typed x)) n))))
power_made x n s p w l es ep ew el =
    let e : p ≡ power (pair (typed x)) n = ep ∙ ap (λ (r : Range). power r n) (sym (pair_typed x)) in
    let f : w ≡ wider (width (typed x)) (least (magnitude p)) = ew ∙ ap₂ wider (sym (width_typed x)) el in
    rw (es, f, e) refl

-- the tree of let number j
pub let_typed : (lets : List Fitted) (j : ℕ) (d : Fitted) → j < length lets → slice_get (map typed lets) j ≡ Some (typed (get_or lets j d))
let_typed [] j d h = absurd (omega arith)
let_typed (t ∷ ts) zero d h = refl
let_typed (t ∷ ts) (suc j) d h = let_typed ts j d (omega arith)

of_typed : (o : Option Typed) (u : Fitted) (w : Width) → o ≡ Some (typed u) → w ≡ wider u.width (least (magnitude (range u.pair))) → IsOfLet o (range u.pair) w
of_typed None u w e q = cc
of_typed (Some t) u w e q =
    let f : t ≡ typed u = cc in
    let a : pair t ≡ range u.pair = ap pair f ∙ pair_typed u in
    let b : width t ≡ u.width = ap width f ∙ width_typed u in
    (sym a, q ∙ ap (λ (v : Width). wider v (least (magnitude (range u.pair)))) (sym b))

-- a node that has the let's range, and the least width that is no narrower than the let
pub named_exact : (lets : List Fitted) (j i : ℕ) (u : Fitted) (l w : Width) → j < length lets → i ≡ j → u ≡ get_or lets i u
    → l ≡ least (magnitude (range u.pair)) → w ≡ wider u.width l → IsOfLet (slice_get (map typed lets) j) (range u.pair) w
named_exact lets j i u l w h e g m n =
    let a : get_or lets j u ≡ u = sym (g ∙ ap (λ (k : ℕ). get_or lets k u) e) in
    of_typed (slice_get (map typed lets) j) u w (let_typed lets j u h ∙ ap (λ (t : Fitted). Some (typed t)) a) (n ∙ ap (λ (v : Width). wider u.width v) m)
