-- The plain value of an expression, and its weight.
use Rattle.std.specs.Prelude.{ℕ, ◌+◌, ◌*◌, ◌^◌, max, ℤ, pos, ◌+ℤ◌, ◌-ℤ◌, ◌*ℤ◌, neg_ℤ}
use Rattle.std.specs.Prelude.{unsigned_abs, List, Option, Some, None, slice_get, slice_index_or}
use Rattle.ln_algebra.specs.Tree.{Tree, Num, Input, Name, Neg, Add, Sub, Mul, Pow}
use Rattle.ln_tree.specs.declared.shape.VarInfo.{VarInfo}
pub use Rattle.ln_tree.specs.Row.{values}
pub use Rattle.ln_interval.specs.Number.{power}

-- the value of an expression where variable v has the value x v, and let j the value of number j in the list
abbrev pub value : (ℕ → ℤ) → List ℤ → Tree → ℤ
value x lets (Num c) = c
value x lets (Input v) = x v
value x lets (Name j) = slice_index_or lets j (pos 0)
value x lets (Neg e) = neg_ℤ (value x lets e)
value x lets (Add e f) = value x lets e +ℤ value x lets f
value x lets (Sub e f) = value x lets e -ℤ value x lets f
value x lets (Mul e f) = value x lets e *ℤ value x lets f
value x lets (Pow e n) = power (value x lets e) n

-- the weight of an expression where variable v has the weight w v, and let j the weight of number j in the list
abbrev pub weight_over : (ℕ → ℕ) → List ℕ → Tree → ℕ
weight_over w lets (Num c) = unsigned_abs c
weight_over w lets (Input v) = w v
weight_over w lets (Name j) = slice_index_or lets j 0
weight_over w lets (Neg e) = weight_over w lets e
weight_over w lets (Add e f) = weight_over w lets e + weight_over w lets f
weight_over w lets (Sub e f) = weight_over w lets e + weight_over w lets f
weight_over w lets (Mul e f) = weight_over w lets e * weight_over w lets f
weight_over w lets (Pow e n) = weight_over w lets e ^ n

-- M of a variable: the largest absolute value of its range, and at least 1
abbrev pub size_of : VarInfo → ℕ
size_of i = max 1 (max (unsigned_abs i.lo) (unsigned_abs i.hi))

-- M of a variable; 0 where there is none
abbrev pub size_or : Option VarInfo → ℕ
size_or None = 0
size_or (Some i) = size_of i

-- M of variable number v
abbrev pub sizes : List VarInfo → ℕ → ℕ
sizes vars v = size_or (slice_get vars v)

-- w of a variable, one more than its M; 0 where there is none
abbrev pub weight_or : Option VarInfo → ℕ
weight_or None = 0
weight_or (Some i) = size_of i + 1

-- w of variable number v: one more than its M
abbrev pub weights : List VarInfo → ℕ → ℕ
weights vars v = weight_or (slice_get vars v)
