-- Where an expression stops: how tightly tokens bind to what comes before them.
use Rattle.std.specs.Prelude.{ℕ, ◌<◌, List, Option, Some, None}
use Rattle.ln_syntax.specs.Raw.{Token, kind_at, Kind, Dot, Plus, Minus, Star, Caret}
use Rattle.ln_syntax.specs.Expression.{Sort, Atom, Power, Unary, Term, Sum, Factors, Terms}

-- how tightly a token of this kind binds to what comes before it: a dot most, then ^, then *, then + and -
abbrev pub strength : Kind → ℕ
strength Dot = 4
strength Caret = 3
strength Star = 2
strength Plus = 1
strength Minus = 1
strength k = 0

-- the strength of a token; 0 where there is no token
abbrev pub strength_of : Option Kind → ℕ
strength_of None = 0
strength_of (Some k) = strength k

-- a sort goes on with the tokens whose strength is at least this
abbrev pub bar : Sort → ℕ
bar Atom = 4
bar Power = 3
bar Unary = 3
bar Term = 2
bar (Factors f) = 2
bar Sum = 1
bar (Terms f) = 1

-- the token at place j doesn't go on with the sort
pub record Stops (ts : List Token) (s : Sort) (j : ℕ) : Type 0 where
  pub weak : strength_of (kind_at ts j) < bar s
