-- Trees of the program, seen as trees.
use Rattle.ln_bound.specs.declared.fitted.Width.{Width}
use Rattle.ln_bound.specs.declared.fitted.Two.TheVariants.{Plus, Minus, Times}
use Rattle.ln_bound.specs.declared.fitted.Fitted.{Fitted}
use Rattle.ln_bound.specs.declared.fitted.FitOp.{FitOp}
use Rattle.ln_bound.specs.declared.fitted.FitOp.TheVariants.{Num, Input, Let, Neg', Add', Sub', Mul', Pow'}
use Rattle.ln_interval.specs.Range.{Range}
use Rattle.ln_interval.specs.View.{range}
use Rattle.ln_bound.specs.Typed.{Typed, TNum, TInput, TLet, TNeg, TTwo, TPow}

-- the tree with this operation of the program at its root, this range and this width
abbrev pub op_typed : FitOp → Range → Width → Typed
op_typed (Num c) b w = TNum c b w
op_typed (Input v) b w = TInput v b w
op_typed (Let j) b w = TLet j b w
op_typed (Neg' p x c u) b w = TNeg (op_typed x (range c) u) b w
op_typed (Add' p x c u q y d v) b w = TTwo Plus (op_typed x (range c) u) (op_typed y (range d) v) b w
op_typed (Sub' p x c u q y d v) b w = TTwo Minus (op_typed x (range c) u) (op_typed y (range d) v) b w
op_typed (Mul' p x c u q y d v) b w = TTwo Times (op_typed x (range c) u) (op_typed y (range d) v) b w
op_typed (Pow' p x c u n) b w = TPow (op_typed x (range c) u) n b w

-- the tree without where it lies in memory
abbrev pub typed : Fitted → Typed
typed t = op_typed t.op (range t.pair) t.width
