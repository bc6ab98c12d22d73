-- The formula of nodes in postfix order: each takes the place of its operands on a stack.
use Rattle.std.specs.Prelude.{◌≡◌, ℕ, ◌<◌, ◌≤◌, List, [], ◌∷◌, length}
use Rattle.ln_base.specs.declared.span.Span.{Span}
use Rattle.ln_names.specs.declared.nodes.Node.{Node}
use Rattle.ln_names.specs.declared.nodes.What.{What}
use Rattle.ln_names.specs.declared.nodes.What.TheVariants.{Number, Let, Input, Apply, Power}
use Rattle.ln_names.specs.declared.nodes.Operation.{Operation}
use Rattle.ln_names.specs.declared.nodes.Operation.TheVariants.{Negation, Sum, Difference}
use Rattle.ln_tree.specs.Formula.{Formula, FNum, FInput, FName, FNeg, FAdd, FSub, FMul, FPow}

-- an operation on two operands
abbrev pub on_two : Operation → Span → Formula → Formula → Formula
on_two Sum at f g = FAdd at f g
on_two Difference at f g = FSub at f g
on_two p at f g = FMul at f g

-- the negation of the top of a stack
abbrev pub negated : Span → List Formula → List Formula
negated at [] = []
negated at (f ∷ fs) = FNeg at f ∷ fs

-- a power of it
abbrev pub raised : ℕ → Span → List Formula → List Formula
raised n at [] = []
raised n at (f ∷ fs) = FPow at f n ∷ fs

-- an operation on its two last formulas
abbrev pub combined : Operation → Span → List Formula → List Formula
combined p at (g ∷ f ∷ fs) = on_two p at f g ∷ fs
combined p at fs = fs

-- the stack after a node, the last operand first
abbrev pub applied_by : What → Span → List Formula → List Formula
applied_by (Number z) at fs = FNum at z ∷ fs
applied_by (Let j) at fs = FName at j ∷ fs
applied_by (Input a c) at fs = FInput at a c ∷ fs
applied_by (Apply Negation) at fs = negated at fs
applied_by (Apply p) at fs = combined p at fs
applied_by (Power n) at fs = raised n at fs

-- the same of a node
abbrev pub applied : Node → List Formula → List Formula
applied n fs = applied_by n.what n.at fs

-- how many operands a node has
abbrev pub arity : What → ℕ
arity (Apply Negation) = 1
arity (Apply p) = 2
arity (Power n) = 1
arity w = 0

-- names are places that a byte counts
abbrev pub is_small_power : What → Type 0
is_small_power (Let j) = j < 256
is_small_power (Input a c) = (a < 256) × (c < 256)
is_small_power w = Unit {0}

-- nodes whose operands are there bring one stack to another
abbrev pub Brings : List Node → List Formula → List Formula → Type 0
Brings [] fs gs = fs ≡ gs
Brings (n ∷ ns) fs gs = (arity n.what ≤ length fs) × is_small_power n.what × Brings ns (applied n fs) gs

-- the nodes are those of one formula
abbrev pub AreOne : List Node → Type 0
AreOne ns = (f : Formula) × Brings ns [] (f ∷ [])
