-- What holds of a file without a fault of names and limits: the limits of the language and the rules on its names, item by item.
use Rattle.std.specs.Prelude.{◌≡◌, ℕ, ◌+◌, ◌<◌, ◌≤◌, ◌^◌, ◌≤ℤ◌, Bool, true, false, ◌||◌, List, [], ◌∷◌, ◌++◌, length, count_by}
use Rattle.std.specs.List.{list_any}
use Rattle.ln_syntax.specs.Raw.{Span, Token, Item, SiteItem, ParamItem, PredItem, item_name, is_site, is_param, is_pred, Is, text, same, Semi}
use Rattle.ln_names.specs.Rules.{RawRange, RawCoord, RawArg, RawLet, Places, Scope, scope, is_site_arg, is_param_arg, has_site, has_param, has_site_arg}
use Rattle.ln_names.specs.Rules.{has_param_arg, has_let, coords_at}
use Rattle.ln_syntax.specs.Expression.{Tree, TNum, TName, TInput, TNeg, TAdd, TSub, TMul, TPow, Derives, Sum}
use Rattle.ln_names.specs.Numbers.{number, end_value}
use Rattle.ln_names.specs.Nodes.{Begins}
use Rattle.ln_names.specs.Visits.{nodes_before, value_nodes}
use Rattle.ln_names.specs.First.{NoFault}

-- each element of a list, with those before it
abbrev pub Each : {A : Type 0} → (List A → A → Type 0) → List A → List A → Type 0
Each P before [] = Unit {0}
Each P before (x ∷ xs) = P before x × Each P (before ++ (x ∷ [])) xs

-- a name of at most 32 bytes
abbrev pub IsShort : List ℕ → Span → Type 0
IsShort bytes at = length (text bytes at) ≤ 32

-- both ends within 2^63 - 1, and the low one at most the high one
pub record RangeWithin (bytes : List ℕ) (r : RawRange) : Type 0 where
  pub low : number bytes r.low.at < 2 ^ 63
  pub high : number bytes r.high.at < 2 ^ 63
  pub order : end_value bytes r.low ≤ℤ end_value bytes r.high

-- a coordinate with a name of its own within its site type
pub record CoordWithin (bytes : List ℕ) (before : List RawCoord) (c : RawCoord) : Type 0 where
  pub short : IsShort bytes c.name
  pub new : list_any (λ d. same bytes d.name c.name) before ≡ false
  pub range : RangeWithin bytes c.range

-- what follows an argument's colon was declared before
abbrev pub IsKnown : List ℕ → List Item → RawArg → Bool → Type 0
IsKnown bytes is a true = has_param bytes is a.name ≡ true
IsKnown bytes is a false = has_site bytes is a.kind ≡ true

-- an argument with a name of its own within its predicate
pub record ArgWithin (bytes : List ℕ) (is : List Item) (before : List RawArg) (a : RawArg) : Type 0 where
  pub short : IsShort bytes a.name
  pub new : list_any (λ b. same bytes b.name a.name) before ≡ false
  pub known : IsKnown bytes is a a.is_param

-- literals are at most 2^127 - 1, exponents at most 16, and names stand for something in scope
abbrev pub Fit : List ℕ → Scope → Tree → Type 0
Fit bytes s (TNum at) = number bytes at < 2 ^ 127
Fit bytes s (TName at) = (has_let bytes s.lets at || has_param_arg bytes s.args at) ≡ true
Fit bytes s (TInput at x) = (has_site_arg bytes s.args at ≡ true) × (list_any (λ c. same bytes c.name x) (coords_at bytes s at) ≡ true)
Fit bytes s (TNeg at e) = Fit bytes s e
Fit bytes s (TAdd at e f) = Fit bytes s e × Fit bytes s f
Fit bytes s (TSub at e f) = Fit bytes s e × Fit bytes s f
Fit bytes s (TMul at e f) = Fit bytes s e × Fit bytes s f
Fit bytes s (TPow at e n) = Fit bytes s e × (number bytes n ≤ 16)

-- the tree that the tokens at these places are, before a semicolon
abbrev pub ValueWithin : List ℕ → List Token → Scope → Places → Type 0
ValueWithin bytes ts s p = (e : Tree) → Derives ts Sum p.from p.to e → Is ts p.to Semi → Begins ts p.from → Fit bytes s e

-- a let with a name of its own within its predicate
pub record LetWithin (bytes : List ℕ) (ts : List Token) (is : List Item) (args : List RawArg) (before : List RawLet)
    (l : RawLet) : Type 0 where
  pub short : IsShort bytes l.name
  pub new : (list_any (λ a. same bytes a.name l.name) args || list_any (λ m. same bytes m.name l.name) before) ≡ false
  pub value : ValueWithin bytes ts (scope is args before) l.value

-- the arguments, lets and sign expression of a predicate
pub record PredWithin (bytes : List ℕ) (ts : List Token) (is : List Item) (args : List RawArg) (ls : List RawLet)
    (root : Places) : Type 0 where
  pub site_args : count_by is_site_arg args ≤ 5
  pub param_args : count_by is_param_arg args ≤ 8
  pub args_each : Each (ArgWithin bytes is) [] args
  pub let_count : length ls ≤ 64
  pub lets_each : Each (LetWithin bytes ts is args) [] ls
  pub root_value : ValueWithin bytes ts (scope is args ls) root
  pub node_count : nodes_before ts ls + value_nodes ts root ≤ 2048

-- the parts of an item
abbrev pub PartsWithin : List ℕ → List Token → List Item → Item → Type 0
PartsWithin bytes ts before (SiteItem name cs) = (length cs ≤ 32) × Each (CoordWithin bytes) [] cs
PartsWithin bytes ts before (ParamItem name r) = RangeWithin bytes r
PartsWithin bytes ts before (PredItem name args ls root) = PredWithin bytes ts before args ls root

-- an item with a name of its own within its file
pub record ItemWithin (bytes : List ℕ) (ts : List Token) (before : List Item) (i : Item) : Type 0 where
  pub short : IsShort bytes (item_name i)
  pub new : list_any (λ j. same bytes (item_name j) (item_name i)) before ≡ false
  pub parts : PartsWithin bytes ts before i

-- the items of a file
pub record FileWithin (bytes : List ℕ) (ts : List Token) (is : List Item) : Type 0 where
  pub sites : count_by is_site is ≤ 16
  pub params : count_by is_param is ≤ 16
  pub preds : count_by is_pred is ≤ 16
  pub each : Each (ItemWithin bytes ts) [] is

-- a file without a fault is within the limits, and its names are known and its own
abbrev pub FaultlessIsWithin : Type 0
FaultlessIsWithin = (bytes : List ℕ) (ts : List Token) (is : List Item) → NoFault bytes ts is → FileWithin bytes ts is
