-- The canonical text of a table.
use Rattle.std.specs.Prelude.{ℕ, Bool, true, false, if◌then◌else◌, List, [], ◌∷◌, codes, slice_get}
use Rattle.ln_lex.specs.declared.token.Kind.TheVariants.{Site, Param, Predicate, Let, Sign, BraceL, BraceR, ParL, ParR, Colon, Semi, Comma, Dot, Dots, Plus}
use Rattle.ln_lex.specs.declared.token.Kind.TheVariants.{Minus, Star, Caret, Equals}
use Rattle.ln_parse.specs.Written.{Formula, FAdd, FSub, FMul, CoordOf, SiteOf, ArgOf, SiteArg, ParamArg, PredOf, TableOf, Written, WNum, WName, WInput, WNeg}
use Rattle.ln_parse.specs.Written.{WAdd, WSub, WMul, WPow, Naming, naming, written, range_name, site_name}
use Rattle.ln_parse.specs.declared.printer.Room.{Room}
use Rattle.ln_parse.specs.declared.printer.Room.TheVariants.{OfSum, OfProduct, OfUnary, OfAtom}
pub use Rattle.ln_parse.specs.Lexemes.{Lexeme, gap, line, word, text_of, name, number, signed, each, closing, lexemes_in, minus_if, opening, token}

-- may the expression be written in this room without parentheses? A sum or difference may only where a sum may, a product where a sum
-- or product may, a negation or power everywhere but under ^
abbrev pub fits : Room → Written → Bool
fits r (WNum n) = true
fits r (WName t) = true
fits r (WInput t x) = true
fits OfAtom (WPow e n) = false
fits r (WPow e n) = true
fits OfAtom (WNeg e) = false
fits r (WNeg e) = true
fits OfSum (WMul e f) = true
fits OfProduct (WMul e f) = true
fits r (WMul e f) = false
fits OfSum (WAdd e f) = true
fits r (WAdd e f) = false
fits OfSum (WSub e f) = true
fits r (WSub e f) = false

-- the lexemes of f, in parentheses unless the expression needs none in this room
abbrev pub wrap : Room → Written → (List Lexeme → List Lexeme) → List Lexeme → List Lexeme
wrap r e f rest = if fits r e then f rest else word ParL (codes "(") ∷ f (word ParR (codes ")") ∷ rest)

-- An expression. The right operand of + or - has the room of a product, as has the left operand of *; the right
-- operand of * and the operand of a minus sign have the room of a negation, the operand of ^ that of an atom.
abbrev pub inside : Written → List Lexeme → List Lexeme
inside (WNum n) rest = number n rest
inside (WName t) rest = name t rest
inside (WInput t x) rest = name t (word Dot (codes ".") ∷ name x rest)
inside (WNeg e) rest = word Minus (codes "-") ∷ wrap OfUnary e (inside e) rest
inside (WAdd e f) rest = wrap OfSum e (inside e) (gap ∷ word Plus (codes "+") ∷ gap ∷ wrap OfProduct f (inside f) rest)
inside (WSub e f) rest = wrap OfSum e (inside e) (gap ∷ word Minus (codes "-") ∷ gap ∷ wrap OfProduct f (inside f) rest)
inside (WMul e f) rest = wrap OfProduct e (inside e) (word Star (codes "*") ∷ wrap OfUnary f (inside f) rest)
inside (WPow e n) rest = wrap OfAtom e (inside e) (word Caret (codes "^") ∷ number n rest)

-- what stands between the operands of a sum, difference or product
abbrev pub between : Formula → List Lexeme → List Lexeme
between (FAdd at e f) rest = gap ∷ word Plus (codes "+") ∷ gap ∷ rest
between (FSub at e f) rest = gap ∷ word Minus (codes "-") ∷ gap ∷ rest
between e rest = word Star (codes "*") ∷ rest

-- the room of its left operand
abbrev pub left_room : Formula → Room
left_room (FMul at e f) = OfProduct
left_room e = OfSum

-- the room of its right operand
abbrev pub right_room : Formula → Room
right_room (FMul at e f) = OfUnary
right_room e = OfProduct

-- a whole expression
abbrev pub whole : Written → List Lexeme → List Lexeme
whole e rest = wrap OfSum e (inside e) rest

-- NAME: LOW .. HIGH;
abbrev pub ranged : CoordOf → List Lexeme → List Lexeme
ranged c rest = name c.name (word Colon (codes ":") ∷ gap
    ∷ signed c.lo (gap ∷ word Dots (codes "..") ∷ gap ∷ signed c.hi (word Semi (codes ";") ∷ rest)))

-- a coordinate and one space after it
abbrev pub coord : CoordOf → List Lexeme → List Lexeme
coord c rest = ranged c (gap ∷ rest)

-- the line of a site type
abbrev pub site : SiteOf → List Lexeme → List Lexeme
site s rest = word Site (codes "site") ∷ gap
    ∷ name s.name (gap ∷ word BraceL (codes "{") ∷ gap ∷ each coord s.coords (word BraceR (codes "}") ∷ line ∷ rest))

-- the line of a param
abbrev pub param : CoordOf → List Lexeme → List Lexeme
param c rest = word Param (codes "param") ∷ gap ∷ ranged c (line ∷ rest)

-- an argument: NAME: TYPE, or NAME: param with the param's name
abbrev pub arg : TableOf → ArgOf → List Lexeme → List Lexeme
arg t (SiteArg a s) rest = name a (word Colon (codes ":") ∷ gap ∷ name (site_name (slice_get t.sites s)) rest)
arg t (ParamArg p) rest = name (range_name (slice_get t.params p)) (word Colon (codes ":") ∷ gap ∷ word Param (codes "param") ∷ rest)

-- a further argument
abbrev pub further : TableOf → ArgOf → List Lexeme → List Lexeme
further t a rest = word Comma (codes ",") ∷ gap ∷ arg t a rest

-- the arguments, parted by a comma and a space
abbrev pub args : TableOf → List ArgOf → List Lexeme → List Lexeme
args t [] rest = rest
args t (a ∷ more) rest = arg t a (each (further t) more rest)

-- let NAME = EXPR; and a space
abbrev pub let_of : Naming → List ℕ → Formula → List Lexeme → List Lexeme
let_of n t e rest = word Let (codes "let") ∷ gap ∷ name t (gap ∷ word Equals (codes "=") ∷ gap ∷ whole (written n e)
    (word Semi (codes ";") ∷ gap ∷ rest))

-- the lets, with their names
abbrev pub lets : Naming → List (List ℕ) → List Formula → List Lexeme → List Lexeme
lets n [] es rest = rest
lets n (t ∷ ts) [] rest = rest
lets n (t ∷ ts) (e ∷ es) rest = let_of n t e (lets n ts es rest)

-- sign EXPR; } and the end of the line
abbrev pub root : Naming → Formula → List Lexeme → List Lexeme
root n e rest = word Sign (codes "sign") ∷ gap ∷ whole (written n e) (word Semi (codes ";") ∷ gap ∷ word BraceR (codes "}") ∷ line ∷ rest)

-- the line of a predicate
abbrev pub pred : TableOf → PredOf → List Lexeme → List Lexeme
pred t p rest =
    word Predicate (codes "predicate") ∷ gap
    ∷ name p.name (word ParL (codes "(") ∷ args t p.args (word ParR (codes ")") ∷ gap ∷ word BraceL (codes "{") ∷ gap
    ∷ lets (naming t p) p.let_names p.lets (root (naming t p) p.root rest)))

-- the site types, then the params, then the predicates, each on a line of its own
abbrev pub lexemes : TableOf → List Lexeme → List Lexeme
lexemes t rest = each site t.sites (each param t.params (each (pred t) t.preds rest))

-- the canonical text
abbrev pub canonical : TableOf → List ℕ
canonical t = text_of (lexemes t [])
