-- Trees whose nodes carry ranges and widths, without where they lie in memory.
use Rattle.std.specs.Prelude.{ℕ, ◌+◌, ◌*◌, max, ℤ, List, [], ◌∷◌, map}
use Rattle.ln_algebra.specs.Tree.{Tree, Num, Input, Name, Neg, Add, Sub, Mul, Pow, inlined, inlined_after}
use Rattle.ln_algebra.specs.Coefficient.{Series, normal_coefficient}
use Rattle.ln_base.specs.declared.span.Span.{Span}
use Rattle.ln_tree.specs.Formula.{Formula, FNum, FInput, FName, FNeg, FAdd, FSub, FMul, FPow}
use Rattle.ln_bound.specs.declared.fitted.Width.{Width}
use Rattle.ln_interval.specs.Range.{Range, sum, difference, product}
use Rattle.ln_bound.specs.declared.fitted.Two.{Two}
use Rattle.ln_bound.specs.declared.fitted.Two.TheVariants.{Plus, Minus, Times}

-- a number, a variable, a let, a negation, an operation on two, a power; each with its range and its width
pub data Typed : Type 0 where
  TNum : ℤ → Range → Width → Typed
  TInput : ℕ → Range → Width → Typed
  TLet : ℕ → Range → Width → Typed
  TNeg : Typed → Range → Width → Typed
  TTwo : Two → Typed → Typed → Range → Width → Typed
  TPow : Typed → ℕ → Range → Width → Typed

-- the range of the root
abbrev pub pair : Typed → Range
pair (TNum c p w) = p
pair (TInput v p w) = p
pair (TLet j p w) = p
pair (TNeg t p w) = p
pair (TTwo k s t p w) = p
pair (TPow t n p w) = p

-- which operation on two a tree is, where it is one
abbrev pub operation : Typed → Two
operation (TNum c p w) = Plus
operation (TInput v p w) = Plus
operation (TLet j p w) = Plus
operation (TNeg t p w) = Plus
operation (TTwo k s t p w) = k
operation (TPow t n p w) = Plus

-- the width of the root
abbrev pub width : Typed → Width
width (TNum c p w) = w
width (TInput v p w) = w
width (TLet j p w) = w
width (TNeg t p w) = w
width (TTwo k s t p w) = w
width (TPow t n p w) = w

-- which operation on two a formula is, where it is one
abbrev pub kind_of_two : Formula → Two
kind_of_two (FNum at c) = Plus
kind_of_two (FInput at a c) = Plus
kind_of_two (FName at j) = Plus
kind_of_two (FNeg at e) = Plus
kind_of_two (FAdd at e f) = Plus
kind_of_two (FSub at e f) = Minus
kind_of_two (FMul at e f) = Times
kind_of_two (FPow at e n) = Plus

-- the formula of an operation on two
abbrev pub formula_of : Two → Span → Formula → Formula → Formula
formula_of Plus at e f = FAdd at e f
formula_of Minus at e f = FSub at e f
formula_of Times at e f = FMul at e f

-- the expression of an operation on two
abbrev pub two_of : Two → Tree → Tree → Tree
two_of Plus e f = Add e f
two_of Minus e f = Sub e f
two_of Times e f = Mul e f

-- the expression, without ranges and widths, with its lets by name
abbrev pub untyped : Typed → Tree
untyped (TNum c p w) = Num c
untyped (TInput v p w) = Input v
untyped (TLet j p w) = Name j
untyped (TNeg t p w) = Neg (untyped t)
untyped (TTwo k s t p w) = two_of k (untyped s) (untyped t)
untyped (TPow t n p w) = Pow (untyped t) n

-- the coefficients of its polynomial, after these lets
abbrev pub polynomial : List Typed → Typed → Series
polynomial lets t = normal_coefficient (inlined (inlined_after [] (map untyped lets)) (untyped t))

-- the range of a sum, difference or product of values in p and q
abbrev pub range_of : Two → Range → Range → Range
range_of Plus p q = sum p q
range_of Minus p q = difference p q
range_of Times p q = product p q

-- the size of a sum, difference or product of operands of these sizes
abbrev pub bound_of : Two → ℕ → ℕ → ℕ
bound_of Plus a b = a + b
bound_of Minus a b = a + b
bound_of Times a b = a * b

-- how many values a stack holds at most while it is evaluated
abbrev pub need : Typed → ℕ
need (TNum c p w) = 1
need (TInput v p w) = 1
need (TLet j p w) = 1
need (TNeg t p w) = need t
need (TTwo k s t p w) = max (need s) (need t + 1)
need (TPow t n p w) = max (need t) 2

-- how many operations it takes: 2n + 1 for a power, 1 for each other node
abbrev pub cost : Typed → ℕ
cost (TNum c p w) = 1
cost (TInput v p w) = 1
cost (TLet j p w) = 1
cost (TNeg t p w) = cost t + 1
cost (TTwo k s t p w) = cost s + cost t + 1
cost (TPow t n p w) = cost t + (2 * n + 1)

-- the operations of several together
abbrev pub costs : List Typed → ℕ
costs [] = 0
costs (t ∷ ts) = cost t + costs ts
