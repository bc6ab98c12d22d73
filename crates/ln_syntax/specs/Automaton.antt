-- The automaton that recognises a file: a state, a count of open parentheses, and the step at a token.
use Rattle.std.specs.Prelude.{ℕ, zero, suc, Bool, true, false, List, [], ◌∷◌, Option, Some, None}
use Rattle.ln_syntax.specs.Raw.{Token, Kind, Name, Number, Site, Param, Predicate, Let, Sign, BraceL, BraceR, ParL, ParR, Colon, Semi, Comma, Dot, Dots, Plus}
use Rattle.ln_syntax.specs.Raw.{Minus, Star, Caret, Equals}
use Rattle.ln_syntax.specs.declared.place.Ranged.{Ranged}
use Rattle.ln_syntax.specs.declared.place.Ranged.TheVariants.{Coordinate, Parameter}
use Rattle.ln_syntax.specs.declared.place.Part.{Part}
use Rattle.ln_syntax.specs.declared.place.Part.TheVariants.{Value, Root}
use Rattle.ln_syntax.specs.declared.place.Last.{Last}
use Rattle.ln_syntax.specs.declared.place.Last.TheVariants.{Named, Whole, Raised}
use Rattle.ln_syntax.specs.declared.place.State.{State}
use Rattle.ln_syntax.specs.declared.place.State.TheVariants.{AnItem, SiteName, SiteOpen, CoordName, CoordColon, CoordOrEnd, ParamName, ParamColon, Low}
use Rattle.ln_syntax.specs.declared.place.State.TheVariants.{LowNumber, Between, High, HighNumber, RangeEnd, PredicateName, PredicateOpen, ArgName, ArgColon}
use Rattle.ln_syntax.specs.declared.place.State.TheVariants.{ArgKind, ArgEnd, BodyOpen, Body, LetName, LetEquals, Operand, InputName, Exponent, After, BodyEnd}

-- a state and the count of open parentheses; none after a token with which no file goes on
abbrev pub Standing : Type 0
Standing = Option (State × ℕ)

-- after a ) in an expression
abbrev pub closed : Part → ℕ → Standing
closed p zero = None
closed p (suc d) = Some (After p Whole, d)

-- after a ; that ends an expression
abbrev pub ended : Part → ℕ → Standing
ended Value zero = Some (Body, 0)
ended Root zero = Some (BodyEnd, 0)
ended p (suc d) = None

-- after a ; that ends a range
abbrev pub range_ended : Ranged → ℕ → Standing
range_ended Coordinate d = Some (CoordOrEnd, d)
range_ended Parameter d = Some (AnItem, d)

-- after a token that follows an operand
abbrev pub behind : Part → Last → ℕ → Kind → Standing
behind p l d Plus = Some (Operand p, d)
behind p l d Minus = Some (Operand p, d)
behind p l d Star = Some (Operand p, d)
behind p l d ParR = closed p d
behind p l d Semi = ended p d
behind p Named d Dot = Some (InputName p, d)
behind p Named d Caret = Some (Exponent p, d)
behind p Whole d Caret = Some (Exponent p, d)
behind p l d k = None

-- after a token
abbrev pub next_of : State → ℕ → Kind → Standing
next_of AnItem d Site = Some (SiteName, d)
next_of AnItem d Param = Some (ParamName, d)
next_of AnItem d Predicate = Some (PredicateName, d)
next_of SiteName d Name = Some (SiteOpen, d)
next_of SiteOpen d BraceL = Some (CoordName, d)
next_of CoordName d Name = Some (CoordColon, d)
next_of CoordColon d Colon = Some (Low Coordinate, d)
next_of CoordOrEnd d Name = Some (CoordColon, d)
next_of CoordOrEnd d BraceR = Some (AnItem, d)
next_of ParamName d Name = Some (ParamColon, d)
next_of ParamColon d Colon = Some (Low Parameter, d)
next_of (Low r) d Number = Some (Between r, d)
next_of (Low r) d Minus = Some (LowNumber r, d)
next_of (LowNumber r) d Number = Some (Between r, d)
next_of (Between r) d Dots = Some (High r, d)
next_of (High r) d Number = Some (RangeEnd r, d)
next_of (High r) d Minus = Some (HighNumber r, d)
next_of (HighNumber r) d Number = Some (RangeEnd r, d)
next_of (RangeEnd r) d Semi = range_ended r d
next_of PredicateName d Name = Some (PredicateOpen, d)
next_of PredicateOpen d ParL = Some (ArgName, d)
next_of ArgName d Name = Some (ArgColon, d)
next_of ArgColon d Colon = Some (ArgKind, d)
next_of ArgKind d Name = Some (ArgEnd, d)
next_of ArgKind d Param = Some (ArgEnd, d)
next_of ArgEnd d Comma = Some (ArgName, d)
next_of ArgEnd d ParR = Some (BodyOpen, d)
next_of BodyOpen d BraceL = Some (Body, d)
next_of Body d Let = Some (LetName, d)
next_of Body d Sign = Some (Operand Root, 0)
next_of LetName d Name = Some (LetEquals, d)
next_of LetEquals d Equals = Some (Operand Value, 0)
next_of (Operand p) d Number = Some (After p Whole, d)
next_of (Operand p) d Name = Some (After p Named, d)
next_of (Operand p) d ParL = Some (Operand p, suc d)
next_of (Operand p) d Minus = Some (Operand p, d)
next_of (InputName p) d Name = Some (After p Whole, d)
next_of (Exponent p) d Number = Some (After p Raised, d)
next_of (After p l) d k = behind p l d k
next_of BodyEnd d BraceR = Some (AnItem, d)
next_of s d k = None

-- a file may end in this state
abbrev pub is_end : State → Bool
is_end AnItem = true
is_end s = false

-- the step at a token; from nowhere there is none
abbrev pub next_at : Standing → Kind → Standing
next_at None k = None
next_at (Some c) k = next_of c.0 c.1 k

-- the steps at all the tokens
abbrev pub goes : Standing → List Token → Standing
goes o [] = o
goes o (t ∷ ts) = goes (next_at o t.kind) ts

-- where a file begins
abbrev pub start : Standing
start = Some (AnItem, 0)
