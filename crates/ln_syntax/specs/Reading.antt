-- What is at a place, for the reader of items: some derivation begins there, and its end token follows it.
use Rattle.std.specs.Prelude.{ℕ, List}
use Rattle.ln_syntax.specs.Raw.{Token, RawEnd, RawRange, RawCoord, RawArg, RawLet, Item, Is, Sign, BraceR, ParR, Semi}
use Rattle.ln_syntax.specs.Expression.{IsExpr}
use Rattle.ln_syntax.specs.File.{End, Range, Coords, Arg, Args, Lets, IsItem}

-- an end of a range begins at place i
pub record HasEnd (ts : List Token) (i : ℕ) : Type 0 where
  pub to : ℕ
  pub value : RawEnd
  pub derives : End ts i to value

-- a range begins at place i
pub record HasRange (ts : List Token) (i : ℕ) : Type 0 where
  pub to : ℕ
  pub value : RawRange
  pub derives : Range ts i to value

-- coordinates up to their brace
pub record HasCoords (ts : List Token) (i : ℕ) : Type 0 where
  pub to : ℕ
  pub value : List RawCoord
  pub derives : Coords ts i to value
  pub stops : Is ts to BraceR

-- an argument begins at place i
pub record HasArg (ts : List Token) (i : ℕ) : Type 0 where
  pub value : RawArg
  pub derives : Arg ts i value

-- arguments up to their parenthesis
pub record HasArgs (ts : List Token) (i : ℕ) : Type 0 where
  pub to : ℕ
  pub value : List RawArg
  pub derives : Args ts i to value
  pub stops : Is ts to ParR

-- lets up to `sign`
pub record HasLets (ts : List Token) (i : ℕ) : Type 0 where
  pub to : ℕ
  pub value : List RawLet
  pub derives : Lets ts i to value
  pub stops : Is ts to Sign

-- an expression up to its semicolon
pub record HasExpr (ts : List Token) (i : ℕ) : Type 0 where
  pub to : ℕ
  pub derives : IsExpr ts i to
  pub stops : Is ts to Semi

-- an item begins at place i
pub record HasItem (ts : List Token) (i : ℕ) : Type 0 where
  pub to : ℕ
  pub value : Item
  pub derives : IsItem ts i to value
