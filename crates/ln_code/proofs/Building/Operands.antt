-- Operands of sound trees.
use Rattle.std.proofs.Common.{◌≡◌, ℕ, ◌≤◌, List, refl, arith, Box, Global}
use mathlib.Core.Logic.{◌⊎◌}
use Rattle.ln_algebra.specs.Sizes.{one}
use Rattle.ln_algebra.specs.Tree as tree
use Rattle.ln_algebra.specs.Tree.{Tree, inlined}
use Rattle.ln_tree.specs.declared.shape.VarInfo.{VarInfo}
use Rattle.ln_interval.specs.Range.{Range, most}
use Rattle.ln_interval.specs.View.{range}
use Rattle.ln_bound.specs.declared.fitted.FitOp.{Add, Sub, Mul}
use Rattle.ln_bound.specs.declared.fitted.Fitted.{Fitted}
use Rattle.ln_bound.specs.declared.fitted.Width.{Width}
use Rattle.ln_bound.specs.declared.fitted.Two.{Two}
use Rattle.ln_bound.specs.declared.fitted.Two.TheVariants.{Plus, Minus, Times}
use Rattle.ln_bound.specs.Room.{HasRoom}
use Rattle.ln_bound.specs.Sound.{Sound, running}
use Rattle.ln_bound.specs.Typed.{Typed, TNeg, TTwo, TPow, operation, untyped, bound_of, two_of}
use Rattle.ln_bound.specs.View.{typed}
use Rattle.ln_bound.proofs.Trees.TypedOperands.{two_typed}
use Rattle.ln_bound.specs.Value.{weight_over}
use Rattle.ln_code.proofs.Building.Names.{closed}

-- a sum, a difference or a product is of the trees in its boxes
pub two_is : (t : Fitted) (x y : Box Fitted Global) → (t.op ≡ Add x y) ⊎ ((t.op ≡ Sub x y) ⊎ (t.op ≡ Mul x y))
    → typed t ≡ TTwo (operation (typed t)) (typed x.value) (typed y.value) (range t.pair) t.width
two_is t x y h = two_typed t.op (Add x y) (Sub x y) (Mul x y) (typed x.value) (typed y.value) (range t.pair) t.width h refl refl refl

-- the running size of an expression is within 2^127 - 1
pub root_room : (ss : List ℕ) (e : Tree) → HasRoom one ss e → weight_over one ss e ≤ most
root_room ss (tree.Num c) h = h
root_room ss (tree.Input v) h = h
root_room ss (tree.Name j) h = h
root_room ss (tree.Neg e) h = h.1
root_room ss (tree.Add e f) h = h.2
root_room ss (tree.Sub e f) h = h.2
root_room ss (tree.Mul e f) h = h.2
root_room ss (tree.Pow e n) h = h.1

-- what the expressions of a sum, a difference and a product have alike: room is room for both operands, and the running size and the closed
-- expression are those of the operation on the operands'
pub record IsTwoTree (trees : List Tree) (ss : List ℕ) (k : Two) (e f : Tree) : Type 0 where
  pub room : HasRoom one ss (two_of k e f) → HasRoom one ss e × HasRoom one ss f
  pub weight : weight_over one ss (two_of k e f) ≡ bound_of k (weight_over one ss e) (weight_over one ss f)
  pub expression : inlined trees (two_of k e f) ≡ two_of k (inlined trees e) (inlined trees f)

-- each of the three
pub two_tree : (trees : List Tree) (ss : List ℕ) (k : Two) (e f : Tree) → IsTwoTree trees ss k e f
two_tree trees ss Plus e f = record { room = λ h. (h.0, h.1); weight = refl; expression = refl }
two_tree trees ss Minus e f = record { room = λ h. (h.0, h.1); weight = refl; expression = refl }
two_tree trees ss Times e f = record { room = λ h. (h.0, h.1); weight = refl; expression = refl }

-- the operand of a sound negation is sound
pub sound_opposite : {vars : List VarInfo} {lets : List Typed} {t : Typed} {p : Range} {w : Width} → Sound vars lets (TNeg t p w) → Sound vars lets t
sound_opposite s = record { nodes = s.nodes.0; sizes = s.sizes.0; deep = s.deep }

-- the base of a sound power is sound
pub sound_base : {vars : List VarInfo} {lets : List Typed} {t : Typed} {n : ℕ} {p : Range} {w : Width} → Sound vars lets (TPow t n p w) → Sound vars lets t
sound_base s = record { nodes = s.nodes.0; sizes = s.sizes.0; deep = let d = s.deep in omega (arith, d) }

-- the left operand of a sound operation on two is sound
pub sound_left : {vars : List VarInfo} {lets : List Typed} {k : Two} {t u : Typed} {p : Range} {w : Width} → Sound vars lets (TTwo k t u p w)
    → Sound vars lets t
sound_left {lets = lets} {k = k} {t = t} {u = u} s = record {
  nodes = s.nodes.0;
  sizes = ((two_tree (closed lets) (running lets) k (untyped t) (untyped u)).room s.sizes).0;
  deep = let d = s.deep in omega (arith, d);
}

-- the right operand of a sound operation on two is sound
pub sound_right : {vars : List VarInfo} {lets : List Typed} {k : Two} {t u : Typed} {p : Range} {w : Width} → Sound vars lets (TTwo k t u p w)
    → Sound vars lets u
sound_right {lets = lets} {k = k} {t = t} {u = u} s = record {
  nodes = s.nodes.1;
  sizes = ((two_tree (closed lets) (running lets) k (untyped t) (untyped u)).room s.sizes).1;
  deep = let d = s.deep in omega (arith, d);
}
