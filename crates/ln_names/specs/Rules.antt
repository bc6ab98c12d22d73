-- The rules on names and limits at one token: what the token is, and the table of its faults in their order.
use Rattle.std.specs.Prelude.{ℕ, ◌==◌, ◌&&◌, ◌||◌, not, nat_lt, int_lt, Bool, true, false, if◌then◌else◌, List, [], ◌∷◌, length}
use Rattle.std.specs.Prelude.{count_by, find, Option, Some, None}
use Rattle.std.specs.List.{list_any}
use Rattle.ln_syntax.specs.Raw.{Span, Item, item_name, is_site, is_param, is_pred, coords_in, text, same}
pub use Rattle.ln_syntax.specs.declared.raw.Places.{Places}
pub use Rattle.ln_syntax.specs.declared.raw.RawEnd.{RawEnd}
pub use Rattle.ln_syntax.specs.declared.raw.RawRange.{RawRange}
pub use Rattle.ln_syntax.specs.declared.raw.RawCoord.{RawCoord}
pub use Rattle.ln_syntax.specs.declared.raw.RawArg.{RawArg}
pub use Rattle.ln_syntax.specs.declared.raw.RawLet.{RawLet}
use Rattle.ln_names.specs.declared.faults.Fault.{Fault}
use Rattle.ln_names.specs.declared.faults.Fault.TheVariants.{Limit, Named}
use Rattle.ln_names.specs.declared.faults.LimitWhat.TheVariants.{NameLength, Literal, RangeEnd, Exponent, Sites, Params, Predicates, Coords, Lets, SiteArgs}
use Rattle.ln_names.specs.declared.faults.LimitWhat.TheVariants.{ParamArgs, Nodes}
use Rattle.ln_names.specs.declared.faults.NameWhat.TheVariants.{Twice, Unknown}
use Rattle.ln_base.specs.Limits.{most_literal}
use Rattle.ln_names.specs.Numbers.{number, end_value, most_end}

-- what an expression can speak of: the items before its predicate, the arguments, the lets before
pub record Scope : Type 0 where
  pub items : List Item
  pub args : List RawArg
  pub lets : List RawLet

-- the scope with these items, arguments and lets
abbrev pub scope : List Item → List RawArg → List RawLet → Scope
scope items args lets = record { items = items; args = args; lets = lets }

-- What a token is, with what comes before it: items before an item, coordinates of its site before a coordinate, and so on. A node has the count
-- of the nodes of its predicate before it.
pub data Use : Type 0 where
  -- the name of a site type, a param, a predicate, a coordinate
  SiteName : List Item → Use
  ParamName : List Item → Use
  PredName : List Item → Use
  CoordName : List RawCoord → Use
  -- the first and the second NUMBER of a range
  LowEnd : Use
  HighEnd : RawRange → Use
  -- the name of an argument; after its colon the name of a site type, or `param`, with the argument's name
  ArgName : List RawArg → Use
  ArgSite : List Item → List RawArg → Use
  ArgParam : List Item → List RawArg → Span → Use
  -- the name of a let
  LetName : List RawArg → List RawLet → Use
  -- in an expression: a NUMBER, a bare NAME, the first NAME of an input, the second one with the first one's place, an operator,
  -- a NUMBER after ^
  NumberNode : ℕ → Use
  NameNode : ℕ → Scope → Use
  InputNode : ℕ → Scope → Use
  InputCoord : Scope → Span → Use
  OperatorNode : ℕ → Use
  ExponentOf : Use

-- the tests of the table

-- any NAME
abbrev pub is_name : Use → Bool
is_name LowEnd = false
is_name (HighEnd r) = false
is_name (ArgParam items before name) = false
is_name (NumberNode n) = false
is_name (OperatorNode n) = false
is_name ExponentOf = false
is_name u = true

-- any NUMBER
abbrev pub is_number : Use → Bool
is_number LowEnd = true
is_number (HighEnd r) = true
is_number (NumberNode n) = true
is_number ExponentOf = true
is_number u = false

-- a NUMBER of a range
abbrev pub is_end : Use → Bool
is_end LowEnd = true
is_end (HighEnd r) = true
is_end u = false

-- the second NUMBER of a range whose low end is above its high end
abbrev pub is_under_low : List ℕ → Use → Bool
is_under_low bytes (HighEnd r) = int_lt (end_value bytes r.high) (end_value bytes r.low)
is_under_low bytes u = false

-- a NUMBER after ^
abbrev pub is_exponent : Use → Bool
is_exponent ExponentOf = true
is_exponent u = false

-- a site argument
abbrev pub is_site_arg : RawArg → Bool
is_site_arg a = not a.is_param

-- a param argument
abbrev pub is_param_arg : RawArg → Bool
is_param_arg a = a.is_param

-- a name or node that is one too many, and its fault: a file has at most 16 site types, params and predicates each, a site type 32 coordinates,
-- a predicate 5 site arguments, 8 param arguments, 64 lets and 2,048 nodes
abbrev pub count_rule : Use → Bool × Fault
count_rule (SiteName before) = (count_by is_site before == 16, Limit Sites)
count_rule (ParamName before) = (count_by is_param before == 16, Limit Params)
count_rule (PredName before) = (count_by is_pred before == 16, Limit Predicates)
count_rule (CoordName before) = (length before == 32, Limit Coords)
count_rule (LetName args before) = (length before == 64, Limit Lets)
count_rule (ArgSite items before) = (count_by is_site_arg before == 5, Limit SiteArgs)
count_rule (ArgParam items before name) = (count_by is_param_arg before == 8, Limit ParamArgs)
count_rule (NumberNode before) = (before == 2048, Limit Nodes)
count_rule (NameNode before s) = (before == 2048, Limit Nodes)
count_rule (InputNode before s) = (before == 2048, Limit Nodes)
count_rule (OperatorNode before) = (before == 2048, Limit Nodes)
count_rule u = (false, Limit Nodes)

-- a name that stands before: site types, params and predicates share one space of names, as do the arguments and lets of a predicate
abbrev pub is_twice : List ℕ → Use → Span → Bool
is_twice bytes (SiteName before) at = list_any (λ i. same bytes (item_name i) at) before
is_twice bytes (ParamName before) at = list_any (λ i. same bytes (item_name i) at) before
is_twice bytes (PredName before) at = list_any (λ i. same bytes (item_name i) at) before
is_twice bytes (CoordName before) at = list_any (λ c. same bytes c.name at) before
is_twice bytes (ArgName before) at = list_any (λ a. same bytes a.name at) before
is_twice bytes (LetName args before) at = list_any (λ a. same bytes a.name at) args || list_any (λ l. same bytes l.name at) before
is_twice bytes u at = false

-- one of the items is a site type of this name
abbrev pub has_site : List ℕ → List Item → Span → Bool
has_site bytes items at = list_any (λ i. is_site i && same bytes (item_name i) at) items

-- one of the items is a param of this name
abbrev pub has_param : List ℕ → List Item → Span → Bool
has_param bytes items at = list_any (λ i. is_param i && same bytes (item_name i) at) items

-- one of the arguments is a site of this name
abbrev pub has_site_arg : List ℕ → List RawArg → Span → Bool
has_site_arg bytes args at = list_any (λ a. is_site_arg a && same bytes a.name at) args

-- one of the arguments is a param of this name
abbrev pub has_param_arg : List ℕ → List RawArg → Span → Bool
has_param_arg bytes args at = list_any (λ a. is_param_arg a && same bytes a.name at) args

-- one of the lets has this name
abbrev pub has_let : List ℕ → List RawLet → Span → Bool
has_let bytes lets at = list_any (λ l. same bytes l.name at) lets

-- the coordinates of an argument's site type; none, where there is no argument or no such type
abbrev pub coords_of : List ℕ → List Item → Option RawArg → List RawCoord
coords_of bytes items None = []
coords_of bytes items (Some a) = coords_in (find (λ i. is_site i && same bytes (item_name i) a.kind) items)

-- the coordinates of the site argument of this name
abbrev pub coords_at : List ℕ → Scope → Span → List RawCoord
coords_at bytes s arg = coords_of bytes s.items (find (λ a. is_site_arg a && same bytes a.name arg) s.args)

-- a name that stands for nothing: after an argument's colon no site type declared before, before `param` no param declared before, a bare NAME that is
-- no earlier let and no param argument, the first NAME of an input that is no site argument, the second one that is no coordinate of that site
abbrev pub is_unknown : List ℕ → Use → Span → Bool
is_unknown bytes (ArgSite items before) at = not (has_site bytes items at)
is_unknown bytes (ArgParam items before name) at = not (has_param bytes items name)
is_unknown bytes (NameNode n s) at = not (has_let bytes s.lets at || has_param_arg bytes s.args at)
is_unknown bytes (InputNode n s) at = not (has_site_arg bytes s.args at)
is_unknown bytes (InputCoord s arg) at = not (list_any (λ c. same bytes c.name at) (coords_at bytes s arg))
is_unknown bytes u at = false

-- the table of faults at a token: each row has its test and its fault
abbrev pub rules : List ℕ → Use → Span → List (Bool × Fault)
rules bytes u at =
    (is_name u && nat_lt 32 (length (text bytes at)), Limit NameLength) ∷
    ((is_number u && nat_lt most_literal (number bytes at), Limit Literal) ∷
    ((is_end u && (nat_lt most_end (number bytes at) || is_under_low bytes u), Limit RangeEnd) ∷
    ((is_exponent u && nat_lt 16 (number bytes at), Limit Exponent) ∷
    (count_rule u ∷
    ((is_twice bytes u at, Named Twice) ∷
    ((is_unknown bytes u at, Named Unknown) ∷ []))))))

-- the fault of the first row whose test holds
abbrev pub first_row : List (Bool × Fault) → Option Fault
first_row [] = None
first_row (r ∷ rs) = if r.0 then Some r.1 else first_row rs

-- the fault at a token
abbrev pub fault_at : List ℕ → Use → Span → Option Fault
fault_at bytes u at = first_row (rules bytes u at)
