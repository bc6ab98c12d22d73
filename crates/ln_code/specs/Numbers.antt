-- Integers on a stack.
use Rattle.std.specs.Prelude.{ℕ, ◌^◌, ◌==◌, nat_le, Bool, ℤ, pos, ◌+ℤ◌, ◌-ℤ◌, ◌*ℤ◌, unsigned_abs, Option, Some, None, if◌then◌else◌}
use Rattle.std.specs.Int.RustNames.{int_div}
use Rattle.ln_bound.specs.declared.fitted.Width.{Width}
use Rattle.ln_bound.specs.declared.fitted.Two.{Two}
use Rattle.ln_bound.specs.declared.fitted.Two.TheVariants.{Plus, Minus, Times}
use Rattle.ln_bound.specs.Widths.{limit}

-- the sum, difference or product
abbrev pub result_of : Two → ℤ → ℤ → ℤ
result_of Plus x y = x +ℤ y
result_of Minus x y = x -ℤ y
result_of Times x y = x *ℤ y

-- z divided by 2^n, towards 0
abbrev pub cut_by : ℕ → ℤ → ℤ
cut_by n z = int_div z (pos (2 ^ n))

-- does z fit the width?
abbrev pub fits : Width → ℤ → Bool
fits w z = nat_le (unsigned_abs z) (limit w)

-- no local has a value
abbrev pub no_locals : {V : Type 0} → ℕ → Option V
no_locals k = None

-- the locals with x in local j
abbrev pub with_local : {V : Type 0} → (ℕ → Option V) → ℕ → V → ℕ → Option V
with_local l j x k = if k == j then Some x else l k
