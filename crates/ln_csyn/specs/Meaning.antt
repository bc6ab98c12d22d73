-- Defines what a call of a function of a C file means: its sign with two counts, or the line at which it has no meaning. Sources: C99 for the
-- types, the order of declarations and `/`; the extension `__int128` of GCC and Clang; the subset's own narrower `int` and order
-- of operands.
use Rattle.std.specs.Prelude.{◌≡◌, ℕ, zero, ◌+◌, ◌^◌, ◌&&◌, Bool, true, false, not, List, [], ◌∷◌, ◌++◌, Option, Some, None}
use Rattle.std.specs.Prelude.{nat_eq, nat_lt, slice_get, if◌then◌else◌, ℤ, pos, negsuc, ◌+ℤ◌, ◌-ℤ◌, ◌*ℤ◌, neg_ℤ, int_lt, int_div}
use Rattle.std.specs.Prelude.{Any}
use Rattle.ln_csyn.specs.declared.tree.CType.{CType}
use Rattle.ln_csyn.specs.declared.tree.CType.TheVariants.{Int, Int64, Int128}
use Rattle.ln_csyn.specs.declared.tree.COp.{COp}
use Rattle.ln_csyn.specs.declared.tree.COp.TheVariants.{Add, Sub, Mul, Div, Less, More, Same, Differ}
use Rattle.ln_csyn.specs.Tree.{Expr, Number, Name, Value, Index, Call, Inner, Minus, Two, Body, End, Decl, Group, If, Return, Fun}

-- ---- types: `int` holds -32767 to 32767, `int64_t` -2^63 to 2^63 - 1, `__int128` -2^127 to 2^127 - 1

-- how many numbers from 0 up a type holds
abbrev pub room_up : CType → ℕ
room_up Int = 32768
room_up Int64 = 2 ^ 63
room_up Int128 = 2 ^ 127

-- how many numbers below 0 it holds
abbrev pub room_down : CType → ℕ
room_down Int = 32767
room_down Int64 = 2 ^ 63
room_down Int128 = 2 ^ 127

-- the type holds the number
abbrev pub has : CType → ℤ → Bool
has t (pos n) = nat_lt n (room_up t)
has t (negsuc n) = nat_lt n (room_down t)

-- the two types are the same
abbrev pub is_same : CType → CType → Bool
is_same Int Int = true
is_same Int64 Int64 = true
is_same Int128 Int128 = true
is_same t u = false

-- the two truth values are the same
abbrev pub same_bool : Bool → Bool → Bool
same_bool true b = b
same_bool false b = not b

-- the type is `__int128`
abbrev pub is_wide : CType → Bool
is_wide Int128 = true
is_wide t = false

-- ---- counts

-- how many operations were done in `__int128`, and how many calls
pub record Counts : Type 0 where
  pub wide : ℕ
  pub calls : ℕ

-- one more; the largest number of 32 bits stays
abbrev pub next : ℕ → ℕ
next n = if nat_lt n 4294967295 then n + 1 else n

-- one more operation in this type: a wide one where it is `__int128`
abbrev pub counted : CType → Counts → Counts
counted t k = record { wide = (if is_wide t then next k.wide else k.wide); calls = k.calls }

-- one more call
abbrev pub entered : Counts → Counts
entered k = record { wide = k.wide; calls = next k.calls }

-- ---- expressions

-- The result of an expression: a number of a type with the counts after it, or no meaning, with the line where a called function has none.
pub data Answer : Type 0 where
  Gives : CType → ℤ → Counts → Answer
  Fails : Option ℕ → Answer

-- goes on with the number, its type and the counts that were given; no meaning stays as it is
abbrev pub then_with : Answer → (CType → ℤ → Counts → Answer) → Answer
then_with (Gives t z k) go = go t z k
then_with (Fails o) go = Fails o

-- a number of a type, where the type holds it
abbrev pub given : CType → ℤ → Counts → Answer
given t z k = if has t z then Gives t z k else Fails None

-- the same number in another type
abbrev pub cast : CType → Answer → Answer
cast t a = then_with a (λ u z k. given t z k)

-- the number of a truth value: 1 or 0
abbrev pub number_of_bool : Bool → ℤ
number_of_bool b = if b then pos 1 else pos 0

-- the two integers are equal
abbrev pub same_number : ℤ → ℤ → Bool
same_number (pos m) (pos n) = nat_eq m n
same_number (negsuc m) (negsuc n) = nat_eq m n
same_number a b = false

-- the integer is 0
abbrev pub is_zero : ℤ → Bool
is_zero (pos zero) = true
is_zero z = false

-- An operation on two numbers of one type. The result of `+`, `-`, `*` and `/` has that type, and `/` truncates towards zero (C99 6.5.5); a
-- comparison has the `int` 1 or 0 (C99 6.5.8) and is no counted operation.
abbrev pub operated : COp → CType → ℤ → ℤ → Counts → Answer
operated Add t x y k = given t (x +ℤ y) (counted t k)
operated Sub t x y k = given t (x -ℤ y) (counted t k)
operated Mul t x y k = given t (x *ℤ y) (counted t k)
operated Div t x y k = if is_zero y then Fails None else given t (int_div x y) (counted t k)
operated Less t x y k = Gives Int (number_of_bool (int_lt x y)) k
operated More t x y k = Gives Int (number_of_bool (int_lt y x)) k
operated Same t x y k = Gives Int (number_of_bool (same_number x y)) k
operated Differ t x y k = Gives Int (number_of_bool (not (same_number x y))) k

-- unary minus
abbrev pub negated : CType → ℤ → Counts → Answer
negated t z k = given t (neg_ℤ z) (counted t k)

-- a declaration that is visible; it has no number while its own expression is evaluated
pub record Seen : Type 0 where
  pub name : List ℕ
  pub kind : CType
  pub number : Option ℤ

-- all letters count
abbrev pub same_name : List ℕ → List ℕ → Bool
same_name [] [] = true
same_name [] (b ∷ bs) = false
same_name (a ∷ as') [] = false
same_name (a ∷ as') (b ∷ bs) = nat_eq a b && same_name as' bs

-- the number of this type, or no meaning where there is no number
abbrev pub number_in : Option ℤ → CType → Counts → Answer
number_in None t k = Fails None
number_in (Some z) t k = Gives t z k

-- The innermost declaration of the name, which hides each further one, also while it has no number itself.
abbrev pub find : List Seen → List ℕ → Counts → Answer
find [] x k = Fails None
find (d ∷ ds) x k = if same_name d.name x then number_in d.number d.kind k else find ds x k

-- The things that a body can speak of besides its declarations: the values, the indices where the function has `x`, and the functions that
-- it can call.
pub record Scene : Type 0 where
  pub values : List ℤ
  pub index : Option (List ℤ)
  pub call : List ℕ → Counts → Answer

-- the n-th index; none past the end, or where the function hasn't `x`
abbrev pub index_at : Option (List ℤ) → ℕ → Option ℤ
index_at None i = None
index_at (Some is) i = slice_get is i

-- The value of an expression, with the declarations that are visible, the innermost first. Of two operands the left is evaluated
-- first, then the right, and then their types are compared.
abbrev pub value_of : Scene → List Seen → Expr → Counts → Answer
value_of s ds (Number t n) k = given t (pos n) k
value_of s ds (Name t x) k = cast t (find ds x k)
value_of s ds (Value t i) k = cast t (number_in (slice_get s.values i) Int64 k)
value_of s ds (Index t i) k = cast t (number_in (index_at s.index i) Int64 k)
value_of s ds (Call t f) k = cast t (s.call f (entered k))
value_of s ds (Inner t e) k = cast t (value_of s ds e k)
value_of s ds (Minus e) k = then_with (value_of s ds e k) (λ t z j. negated t z j)
value_of s ds (Two o a b) k =
    then_with (value_of s ds a k) (λ t x i. then_with (value_of s ds b i) (λ u y j. if is_same t u then operated o t x y j else Fails None))

-- ---- statements

-- what statements do: they go on, they return a number, or they have no meaning at a line
pub data Outcome : Type 0 where
  Went : Counts → Outcome
  Said : ℤ → Counts → Outcome
  Wrong : ℕ → Outcome

-- the line of a fault in a statement of this line: inside the called function where it comes from there
abbrev pub line_of : ℕ → Option ℕ → ℕ
line_of l None = l
line_of l (Some m) = m

-- goes on with a number of the type that is wanted, at a statement of this line
abbrev pub wanted : ℕ → CType → Answer → (ℤ → Counts → Outcome) → Outcome
wanted l t (Fails o) go = Wrong (line_of l o)
wanted l t (Gives u z k) go = if is_same t u then go z k else Wrong l

-- goes on with the counts after statements that neither return nor have a fault
abbrev pub then_on : Outcome → (Counts → Outcome) → Outcome
then_on (Went k) go = go k
then_on (Said z k) go = Said z k
then_on (Wrong l) go = Wrong l

-- Statements in order. A declaration is visible to the end of its braces, and in its own expression hides outer ones of its name; `if`
-- enters its braces where its expression isn't 0; `return` ends the function.
abbrev pub runs : Scene → List Seen → Body → Counts → Outcome
runs s ds End k = Went k
runs s ds (Decl l t x e rest) k =
    wanted l t (value_of s (record { name = x; kind = t; number = None } ∷ ds) e k)
    (λ z j. runs s (record { name = x; kind = t; number = Some z } ∷ ds) rest j)
runs s ds (Group l b rest) k = then_on (runs s ds b k) (λ j. runs s ds rest j)
runs s ds (If l e b rest) k =
    wanted l Int (value_of s ds e k) (λ z j. if is_zero z then runs s ds rest j else then_on (runs s ds b j) (λ i. runs s ds rest i))
runs s ds (Return l e rest) k = wanted l Int (value_of s ds e k) Said

-- ---- calls

-- what a function returns whose last brace is on this line: to end without `return` has no meaning there
abbrev pub answer_of : ℕ → Outcome → Answer
answer_of end (Went k) = Fails (Some end)
answer_of end (Said z k) = Gives Int z k
answer_of end (Wrong l) = Fails (Some l)

-- the function has this name, and two parameters or one
abbrev pub is_wanted : Fun → Bool → List ℕ → Bool
is_wanted f indexed name = same_bool f.indexed indexed && same_name f.name name

-- A call of the one of these functions that has one parameter and the name. It sees no declaration of its caller, and no function has a
-- meaning in it, since no function with one parameter has a call.
abbrev pub called : List Fun → List ℤ → List ℕ → Counts → Answer
called [] values name k = Fails None
called (f ∷ fs) values name k =
    if is_wanted f false name
    then answer_of f.end (runs (record { values = values; index = None; call = λ g j. Fails None }) [] f.body k)
    else called fs values name k

-- The result of a call of a function with two parameters: a sign with the counts, or no meaning, with the line of the innermost statement in
-- which evaluation first fails.
pub data CMeaning : Type 0 where
  Signed : ℤ → Counts → CMeaning
  Undefined : ℕ → CMeaning

-- what a function with two parameters returns whose last brace is on this line: to end without `return` has no meaning
abbrev pub called_at : ℕ → Outcome → CMeaning
called_at end (Went k) = Undefined end
called_at end (Said z k) = Signed z k
called_at end (Wrong l) = Undefined l

-- what the function with two parameters does that has this body; the functions before it are these
abbrev pub runs_behind : List Fun → Body → List ℤ → List ℤ → Outcome
runs_behind before body index values =
    runs (record { values = values; index = Some index; call = called before values }) [] body (record { wide = 0; calls = 0 })

-- the call of the first function with two parameters and this name, which may call all those before it; None where there is none
abbrev pub called_behind : List Fun → List Fun → List ℕ → List ℤ → List ℤ → Option CMeaning
called_behind before [] name index values = None
called_behind before (f ∷ fs) name index values =
    if is_wanted f true name
    then Some (called_at f.end (runs_behind before f.body index values))
    else called_behind (before ++ f ∷ []) fs name index values

-- The meaning of a call of the file's function with two parameters and this name; None where there is no such function.
abbrev pub CCall : List Fun → List ℕ → List ℤ → List ℤ → Option CMeaning
CCall fs name index values = called_behind [] fs name index values

-- A function with two parameters has the name.
abbrev pub CNamed : List Fun → List ℕ → Type 0
CNamed fs name = Any (λ f. (f.indexed ≡ true) × (f.name ≡ name)) fs
