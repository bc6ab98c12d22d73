-- The error of the operation that pushed the remaining value.
use Rattle.std.specs.Prelude.{ℕ, suc, ◌-◌, ◌==◌, List, [], ◌∷◌, if◌then◌else◌}
use Rattle.ln_code.specs.declared.op.Op.{Op}
use Rattle.ln_code.specs.declared.op.Op.TheVariants.{Push, Input, Get, Set, Add, Sub, Mul, Neg, Cut}
use Rattle.ln_code.specs.declared.op.Triple.{Triple}

-- how many values the stack has after an operation, of n before it
abbrev pub size_after : Op → ℕ → ℕ
size_after (Push c) n = suc n
size_after (Input v) n = suc n
size_after (Get j) n = suc n
size_after (Set j) n = n - 1
size_after (Add w) n = n - 1
size_after (Sub w) n = n - 1
size_after (Mul w) n = n - 1
size_after (Neg w) n = n
size_after (Cut n) m = m

-- the error of the lowest value after an operation with the error e, after which the stack has n values; before it was d
abbrev pub error_behind : Op → ℕ → ℕ → ℕ → ℕ
error_behind (Set j) n e d = d
error_behind o n e d = if n == 1 then e else d

-- the error of the lowest value, after n values of which the lowest has the error d
abbrev pub left_error : List Op → List Triple → ℕ → ℕ → ℕ
left_error [] as' n d = d
left_error (o ∷ os) [] n d = d
left_error (o ∷ os) (a ∷ as') n d = left_error os as' (size_after o n) (error_behind o (size_after o n) a.e d)
