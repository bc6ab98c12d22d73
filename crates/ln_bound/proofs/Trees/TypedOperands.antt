-- Typed trees with two operands, by their operation.
use Rattle.std.proofs.Common.{◌≡◌, refl}
use mathlib.Core.Logic.{◌⊎◌, inl, inr}
use Rattle.ln_interval.specs.Range.{Range}
use Rattle.ln_bound.specs.declared.fitted.Width.{Width}
use Rattle.ln_bound.specs.declared.fitted.FitOp.{FitOp}
use Rattle.ln_bound.specs.declared.fitted.Two.TheVariants.{Plus, Minus, Times}
use Rattle.ln_bound.specs.Typed.{Typed, TTwo, operation}
use Rattle.ln_bound.specs.View.{op_typed}

-- what is a sum, a difference or a product is the tree of its operation
pub two_typed : (n x y z : FitOp) (s t : Typed) (p : Range) (w : Width) → (n ≡ x) ⊎ ((n ≡ y) ⊎ (n ≡ z)) → op_typed x p w ≡ TTwo Plus s t p w
    → op_typed y p w ≡ TTwo Minus s t p w → op_typed z p w ≡ TTwo Times s t p w
    → op_typed n p w ≡ TTwo (operation (op_typed n p w)) s t p w
two_typed n x y z s t p w (inl e) a b c = rw (e, a) refl
two_typed n x y z s t p w (inr (inl e)) a b c = rw (e, b) refl
two_typed n x y z s t p w (inr (inr e)) a b c = rw (e, c) refl
