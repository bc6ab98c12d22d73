-- Which tokens spell which expression: the grammar from EXPR down, one rule a constructor.
use Rattle.std.specs.Prelude.{ℕ, suc, List}
use Rattle.ln_syntax.specs.Raw.{Span, Token, Is, span_at, Name, Number, ParL, ParR, Dot, Plus, Minus, Star, Caret}

-- an expression with unresolved names: each node has the span of its own token; an input has its coordinate's too, a power its exponent's
pub data Tree : Type 0 where
  TNum : Span → Tree
  TName : Span → Tree
  TInput : Span → Span → Tree
  TNeg : Span → Tree → Tree
  TAdd : Span → Tree → Tree → Tree
  TSub : Span → Tree → Tree → Tree
  TMul : Span → Tree → Tree → Tree
  TPow : Span → Tree → Span → Tree

-- ATOM, POWER, UNARY, TERM and EXPR; Factors f and Terms f are what may follow f, which they go on to the left of: (*
-- UNARY)* and ((+ | -) TERM)*
pub data Sort : Type 0 where
  Atom : Sort
  Power : Sort
  Unary : Sort
  Term : Sort
  Sum : Sort
  Factors : Tree → Sort
  Terms : Tree → Sort

-- the tokens from place i up to place j are of this sort, with this tree
pub data Derives (ts : List Token) : Sort → ℕ → ℕ → Tree → Type 0 where
  -- ATOM := NUMBER
  number : {i : ℕ} → Is ts i Number → Derives ts Atom i (suc i) (TNum (span_at ts i))
  -- ATOM := NAME
  name : {i : ℕ} → Is ts i Name → Derives ts Atom i (suc i) (TName (span_at ts i))
  -- ATOM := NAME . NAME
  input : {i : ℕ} → Is ts i Name → Is ts (suc i) Dot → Is ts (suc (suc i)) Name →
      Derives ts Atom i (suc (suc (suc i))) (TInput (span_at ts i) (span_at ts (suc (suc i))))
  -- ATOM := ( EXPR )
  parens : {i j : ℕ} {e : Tree} → Is ts i ParL → Derives ts Sum (suc i) j e → Is ts j ParR → Derives ts Atom i (suc j) e
  -- POWER := ATOM
  plain : {i j : ℕ} {e : Tree} → Derives ts Atom i j e → Derives ts Power i j e
  -- POWER := ATOM ^ NUMBER
  power : {i j : ℕ} {e : Tree} → Derives ts Atom i j e → Is ts j Caret → Is ts (suc j) Number →
      Derives ts Power i (suc (suc j)) (TPow (span_at ts j) e (span_at ts (suc j)))
  -- UNARY := POWER
  base : {i j : ℕ} {e : Tree} → Derives ts Power i j e → Derives ts Unary i j e
  -- UNARY := - UNARY
  minus : {i j : ℕ} {e : Tree} → Is ts i Minus → Derives ts Unary (suc i) j e → Derives ts Unary i j (TNeg (span_at ts i) e)
  -- TERM := UNARY (* UNARY)*
  term : {i j k : ℕ} {e f : Tree} → Derives ts Unary i j f → Derives ts (Factors f) j k e → Derives ts Term i k e
  no_factor : {i : ℕ} {f : Tree} → Derives ts (Factors f) i i f
  times : {i j k : ℕ} {e f g : Tree} → Is ts i Star → Derives ts Unary (suc i) j g →
      Derives ts (Factors (TMul (span_at ts i) f g)) j k e → Derives ts (Factors f) i k e
  -- EXPR := TERM ((+ | -) TERM)*
  sum : {i j k : ℕ} {e f : Tree} → Derives ts Term i j f → Derives ts (Terms f) j k e → Derives ts Sum i k e
  no_term : {i : ℕ} {f : Tree} → Derives ts (Terms f) i i f
  plus : {i j k : ℕ} {e f g : Tree} → Is ts i Plus → Derives ts Term (suc i) j g →
      Derives ts (Terms (TAdd (span_at ts i) f g)) j k e → Derives ts (Terms f) i k e
  less : {i j k : ℕ} {e f g : Tree} → Is ts i Minus → Derives ts Term (suc i) j g →
      Derives ts (Terms (TSub (span_at ts i) f g)) j k e → Derives ts (Terms f) i k e

-- the tokens from place i up to place j are an expression
abbrev pub IsExpr : List Token → ℕ → ℕ → Type 0
IsExpr ts i j = (e : Tree) × Derives ts Sum i j e
