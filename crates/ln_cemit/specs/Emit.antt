-- The body that is emitted for a block or a filter: one declaration for each operation, and the sign as return.
use Rattle.std.specs.Prelude.{ℕ, zero, suc, ◌+◌, ◌/◌, ◌%◌, ◌^◌, ◌||◌, ◌==◌, Bool, true, false, List}
use Rattle.std.specs.Prelude.{[], ◌∷◌, Option, Some, None, nat_lt, if◌then◌else◌, ℤ, pos, negsuc}
use Rattle.ln_bound.specs.declared.fitted.Width.{Width}
use Rattle.ln_bound.specs.declared.fitted.Width.TheVariants.{W64, W128}
use Rattle.ln_bound.specs.Widths.{wider}
use Rattle.ln_code.specs.declared.op.Op.{Op}
use Rattle.ln_code.specs.declared.op.Op.TheVariants.{Push, Input, Get, Set, Add, Sub, Mul, Neg, Cut}
use Rattle.ln_code.specs.Engine.{Line}
use Rattle.ln_code.specs.Numbers.{cut_by, with_local, no_locals}
use Rattle.ln_csyn.specs.declared.tree.CType.{CType}
use Rattle.ln_csyn.specs.declared.tree.CType.TheVariants.{Int, Int64, Int128}
use Rattle.ln_csyn.specs.declared.tree.COp.{COp}
use Rattle.ln_csyn.specs.declared.tree.COp.TheVariants as op
use Rattle.ln_csyn.specs.Tree as c
use Rattle.ln_csyn.specs.Tree.{Expr, Body, Fun}
use Rattle.ln_cemit.specs.declared.slot.Slot.{Slot}
use Rattle.ln_cemit.specs.declared.slot.Way.{Way}

-- the type in C of a width
abbrev pub type_of : Width → CType
type_of W64 = Int64
type_of W128 = Int128

-- a number in k + 1 parts below 2 ^ 31
abbrev pub in_parts : ℕ → ℕ → Expr
in_parts zero n = c.Number Int128 n
in_parts (suc k) n = c.Two op.Add (c.Two op.Mul (in_parts k (n / 2 ^ 31)) (c.Number Int128 (2 ^ 31))) (c.Number Int128 (n % 2 ^ 31))

-- the number is below 2^63, so a NUMBER can say it
abbrev pub is_short : ℕ → Bool
is_short n = nat_lt n (2 ^ 63)

-- a constant from 0 up
abbrev pub natural : ℕ → Expr
natural n = if is_short n then c.Number Int64 n else in_parts 4 n

-- a constant of either sign
abbrev pub constant : ℤ → Expr
constant (pos n) = natural n
constant (negsuc n) = c.Minus (natural (suc n))

-- how many operations at 128 bits a constant takes
abbrev pub constant_wide : ℤ → ℕ
constant_wide (pos n) = if is_short n then 0 else 8
constant_wide (negsuc n) = if is_short (suc n) then 0 else 9

-- a quotient by 2 ^ m, which is 0 from 63 on
abbrev pub cut_expr : ℕ → Expr → Expr
cut_expr m e = if nat_lt m 63 then c.Two op.Div e (c.Number Int64 (2 ^ m)) else c.Number Int64 0

-- a declaration by its number, and its width
abbrev pub slot : ℕ → Width → Slot
slot n w = record { at = n; width = w }

-- a declaration, cast to an operation's type
abbrev pub operand : (ℕ → List ℕ) → Width → Slot → Expr
operand name w s = c.Name (type_of w) (name s.at)

-- the least number that isn't below -e
abbrev pub lowest : CType → ℕ → Expr
lowest t zero = c.Number t 0
lowest t (suc e) = c.Minus (c.Number t (suc e))

-- -1, 0 or 1: the sign of a declaration above e in absolute value, else 0
abbrev pub sign_expr : (ℕ → List ℕ) → ℕ → Slot → Expr
sign_expr name e s =
    c.Two op.Sub
    (c.Inner Int (c.Two op.More (operand name s.width s) (c.Number (type_of s.width) e)))
    (c.Inner Int (c.Two op.Less (operand name s.width s) (lowest (type_of s.width) e)))

-- what follows, by the declarations that hold the stack and the locals
abbrev pub Rest : Type 0
Rest = List Slot → (ℕ → Option Slot) → Body

-- a declaration of this width that is pushed
abbrev pub pushing : (ℕ → List ℕ) → ℕ → Width → Expr → List Slot → (ℕ → Option Slot) → Rest → Body
pushing name n w e st ls go = c.Decl 2 (type_of w) (name n) e (go (slot n w ∷ st) ls)

-- pushes a local again, as a declaration of the wider of its own width and that of the line
abbrev pub put_get : (ℕ → List ℕ) → Way → ℕ → Option Slot → List Slot → (ℕ → Option Slot) → Rest → Body
put_get name a n None st ls go = c.End
put_get name a n (Some s) st ls go = pushing name n (wider s.width a.width) (operand name (wider s.width a.width) s) st ls go

-- takes the last value from the stack into local j, as a declaration of the same width
abbrev pub put_set : (ℕ → List ℕ) → ℕ → ℕ → List Slot → (ℕ → Option Slot) → Rest → Body
put_set name j n [] ls go = c.End
put_set name j n (s ∷ st) ls go = c.Decl 2 (type_of s.width) (name n) (operand name s.width s) (go st (with_local ls j (slot n s.width)))

-- takes the last two values from the stack, and pushes what this operation makes of them in this width
abbrev pub put_two : (ℕ → List ℕ) → COp → Width → ℕ → List Slot → (ℕ → Option Slot) → Rest → Body
put_two name o w n [] ls go = c.End
put_two name o w n (y ∷ []) ls go = c.End
put_two name o w n (y ∷ (x ∷ st)) ls go = pushing name n w (c.Two o (operand name w x) (operand name w y)) st ls go

-- takes the last value from the stack, and pushes its opposite in this width
abbrev pub put_neg : (ℕ → List ℕ) → Width → ℕ → List Slot → (ℕ → Option Slot) → Rest → Body
put_neg name w n [] ls go = c.End
put_neg name w n (x ∷ st) ls go = pushing name n w (c.Minus (operand name w x)) st ls go

-- takes the last value from the stack, and pushes its quotient by 2^m in 64 bits
abbrev pub put_cut : (ℕ → List ℕ) → ℕ → ℕ → List Slot → (ℕ → Option Slot) → Rest → Body
put_cut name m n [] ls go = c.End
put_cut name m n (x ∷ st) ls go = pushing name n W64 (cut_expr m (operand name W64 x)) st ls go

-- one operation, whose declaration has number n
abbrev pub put_op : (ℕ → List ℕ) → Op → Way → ℕ → List Slot → (ℕ → Option Slot) → Rest → Body
put_op name (Push z) a n st ls go = pushing name n a.width (c.Inner (type_of a.width) (constant (cut_by a.shift z))) st ls go
put_op name (Input v) a n st ls go = pushing name n a.width (c.Value (type_of a.width) v) st ls go
put_op name (Get j) a n st ls go = put_get name a n (ls j) st ls go
put_op name (Set j) a n st ls go = put_set name j n st ls go
put_op name (Add w) a n st ls go = put_two name op.Add w n st ls go
put_op name (Sub w) a n st ls go = put_two name op.Sub w n st ls go
put_op name (Mul w) a n st ls go = put_two name op.Mul w n st ls go
put_op name (Neg w) a n st ls go = put_neg name w n st ls go
put_op name (Cut m) a n st ls go = put_cut name m n st ls go

-- the sign of the one remaining declaration
abbrev pub put_sign : (ℕ → List ℕ) → ℕ → List Slot → Body
put_sign name e [] = c.End
put_sign name e (s ∷ []) = c.Return 2 (sign_expr name e s) c.End
put_sign name e (s ∷ (t ∷ st)) = c.End

-- does it read this local?
abbrev pub gets : ℕ → Op → Bool
gets j (Get i) = i == j
gets j o = false

-- does one of these?
abbrev pub any_gets : ℕ → List Op → Bool
any_gets j [] = false
any_gets j (o ∷ os) = gets j o || any_gets j os

-- the operations of lines
abbrev pub ops_of : List (Line Way) → List Op
ops_of [] = []
ops_of (x ∷ xs) = x.op ∷ ops_of xs

-- the number of the last declaration on the stack, where its quotient by 2^m is written as 0 and so doesn't read it
abbrev pub cut_away : ℕ → List Slot → Option ℕ
cut_away m [] = None
cut_away m (s ∷ st) = if nat_lt m 63 then None else Some s.at

-- The number of a declaration that nothing reads although this operation, whose own declaration has number n, is done: that of a local which none of
-- the operations after it reads, and of what is cut to 0.
abbrev pub unread : Op → List Op → ℕ → List Slot → Option ℕ
unread (Set j) os n st = if any_gets j os then None else Some n
unread (Cut m) os n st = cut_away m st
unread (Push z) os n st = None
unread (Input v) os n st = None
unread (Get j) os n st = None
unread (Add w) os n st = None
unread (Sub w) os n st = None
unread (Mul w) os n st = None
unread (Neg w) os n st = None

-- such a declaration is named in a statement that is never reached, so that no compiler warns of it
abbrev pub naming : (ℕ → List ℕ) → Option ℕ → Body → Body
naming name None b = b
naming name (Some i) b = c.If 2 (c.Number Int 0) (c.Return 2 (c.Name Int (name i)) c.End) b

-- the statements from declaration n on, where these hold the stack and the locals
abbrev pub emitted : (ℕ → List ℕ) → ℕ → List (Line Way) → ℕ → List Slot → (ℕ → Option Slot) → Body
emitted name e [] n st ls = put_sign name e st
emitted name e (x ∷ xs) n st ls =
    put_op name x.op x.bound n st ls (λ su ms. naming name (unread x.op (ops_of xs) n st) (emitted name e xs (suc n) su ms))

-- does it read a value of the row?
abbrev pub reads : Op → Bool
reads (Input v) = true
reads o = false

-- does one of these lines read a value of the row?
abbrev pub reads_row : List (Line Way) → Bool
reads_row [] = false
reads_row (x ∷ xs) = reads x.op || reads_row xs

-- a body that reads no value has a statement that names the parameter and is never reached, so that no compiler warns of it
abbrev pub touching : Bool → Body → Body
touching true b = b
touching false b = c.If 2 (c.Number Int 0) (c.Return 2 (c.Value Int 0) c.End) b

-- the same for the indices
abbrev pub touching_index : Bool → Body → Body
touching_index true b = b
touching_index false b = c.If 2 (c.Number Int 0) (c.Return 2 (c.Index Int 0) c.End) b

-- the body of a function: e is 0 in a block, in a filter the error of the remaining value
abbrev pub body_of : (ℕ → List ℕ) → ℕ → List (Line Way) → Body
body_of name e xs = touching (reads_row xs) (emitted name e xs 0 [] no_locals)

-- the static function of this name with one parameter, whose body is emitted for these lines
abbrev pub fun_of : (ℕ → List ℕ) → List ℕ → ℕ → List (Line Way) → Fun
fun_of name own e xs = record { own = true; name = own; indexed = false; body = body_of name e xs; end = 2 }

-- ---- how many operations at 128 bits a body has

-- how many operations at 128 bits one operation of this width is
abbrev pub wide_at : Width → ℕ
wide_at W64 = 0
wide_at W128 = 1

-- how many operations at 128 bits are emitted for one operation of the machine
abbrev pub wide_op : Op → Way → ℕ
wide_op (Push z) a = constant_wide (cut_by a.shift z)
wide_op (Input v) a = 0
wide_op (Get j) a = 0
wide_op (Set j) a = 0
wide_op (Add w) a = wide_at w
wide_op (Sub w) a = wide_at w
wide_op (Mul w) a = wide_at w
wide_op (Neg w) a = wide_at w
wide_op (Cut m) a = 0

-- how many operations at 128 bits are emitted for these lines
abbrev pub wide_lines : List (Line Way) → ℕ
wide_lines [] = 0
wide_lines (x ∷ xs) = wide_op x.op x.bound + wide_lines xs
