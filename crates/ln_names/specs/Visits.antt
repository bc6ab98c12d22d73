-- The tokens that the rules speak of, in order of the text, each with what it is.
use Rattle.std.specs.Prelude.{ℕ, zero, suc, ◌+◌, ◌-◌, Bool, true, false, if◌then◌else◌, List, [], ◌∷◌, ◌++◌, sum_by, Option, Some, None}
use Rattle.ln_syntax.specs.Raw.{Span, Token, Item, SiteItem, ParamItem, PredItem, kind_at, span_at, Kind, Name, Number, ParR, Dot, Plus, Minus, Star}
use Rattle.ln_syntax.specs.Raw.{Caret as CaretToken}
use Rattle.ln_names.specs.Rules.{RawRange, RawCoord, RawArg, RawLet, Places, Scope, scope, Use, SiteName, ParamName, PredName, CoordName, LowEnd, HighEnd}
use Rattle.ln_names.specs.Rules.{ArgName, ArgSite, ArgParam, LetName, NumberNode, NameNode, InputNode, InputCoord, OperatorNode, ExponentOf, fault_at}
use Rattle.ln_names.specs.declared.faults.Fault.{Fault}
use Rattle.ln_names.specs.declared.faults.Found.{Found}
use Rattle.ln_names.specs.declared.nodes.Operation.TheVariants.{Negation, Sum, Difference, Product}
use Rattle.ln_names.specs.declared.roles.Role.{Role}
use Rattle.ln_names.specs.declared.roles.Role.TheVariants.{Value, AfterCaret, Bare, Input, AfterDot, Operator, Caret}

-- a token: what it is, and where it is
pub record Visit : Type 0 where
  pub use_of : Use
  pub at : Span

-- the token that has this use, at this span
abbrev pub visit : Use → Span → Visit
visit u at = record { use_of = u; at = at }

-- the tokens of each element of a list, which depend on the elements before it
abbrev pub visits_by : {A : Type 0} → (List A → A → List Visit) → List A → List A → List Visit
visits_by visits before [] = []
visits_by visits before (x ∷ xs) = visits before x ++ visits_by visits (before ++ (x ∷ [])) xs

-- the two numbers of a range
abbrev pub range_visits : RawRange → List Visit
range_visits r = visit LowEnd r.low.at ∷ (visit (HighEnd r) r.high.at ∷ [])

-- a coordinate's name and range
abbrev pub coord_visits : List RawCoord → RawCoord → List Visit
coord_visits before c = visit (CoordName before) c.name ∷ range_visits c.range

-- what the token after an argument's colon is
abbrev pub kind_use : List Item → List RawArg → RawArg → Use
kind_use items before a = if a.is_param then ArgParam items before a.name else ArgSite items before

-- an argument's name and what follows its colon
abbrev pub arg_visits : List Item → List RawArg → RawArg → List Visit
arg_visits items before a = visit (ArgName before) a.name ∷ (visit (kind_use items before a) a.kind ∷ [])

-- is there a token, and is it a dot?
abbrev pub is_dot : Option Kind → Bool
is_dot (Some Dot) = true
is_dot o = false

-- is there a token, and is it a `^`?
abbrev pub is_caret : Option Kind → Bool
is_caret (Some CaretToken) = true
is_caret o = false

-- does an operand end with this token?
abbrev pub ends_operand : Option Kind → Bool
ends_operand (Some Number) = true
ends_operand (Some Name) = true
ends_operand (Some ParR) = true
ends_operand o = false

-- what a token of an expression is by its kind and its neighbours, if the rules speak of it
abbrev pub role_of : List Token → ℕ → Option Kind → Option Role
role_of ts k (Some Number) = if is_caret (kind_at ts (k - 1)) then Some AfterCaret else Some Value
role_of ts k (Some Name) =
    if is_dot (kind_at ts (k - 1)) then Some AfterDot
    else if is_dot (kind_at ts (k + 1)) then Some Input else Some Bare
role_of ts k (Some Minus) = if ends_operand (kind_at ts (k - 1)) then Some (Operator Difference) else Some (Operator Negation)
role_of ts k (Some Plus) = Some (Operator Sum)
role_of ts k (Some Star) = Some (Operator Product)
role_of ts k (Some CaretToken) = Some Caret
role_of ts k o = None

-- what token k of the file is in its expression
abbrev pub role_at : List Token → ℕ → Option Role
role_at ts k = role_of ts k (kind_at ts k)

-- each node has one token: a NUMBER, a bare NAME, the first NAME of an input, an operator
abbrev pub is_node : Role → ℕ
is_node AfterCaret = 0
is_node AfterDot = 0
is_node r = 1

-- 1 for a token that is the one of a node, and 0 for any other
abbrev pub is_node_at : Option Role → ℕ
is_node_at None = 0
is_node_at (Some r) = is_node r

-- what token k is for the rules, after n nodes; the first NAME of an input is two places before the second
abbrev pub role_use : List Token → Scope → ℕ → ℕ → Role → Use
role_use ts s n k Value = NumberNode n
role_use ts s n k AfterCaret = ExponentOf
role_use ts s n k Bare = NameNode n s
role_use ts s n k Input = InputNode n s
role_use ts s n k AfterDot = InputCoord s (span_at ts (k - 2))
role_use ts s n k (Operator p) = OperatorNode n
role_use ts s n k Caret = OperatorNode n

-- token k, after n nodes, with what it is for the rules; nothing where they don't speak of it
abbrev pub token_visits : List Token → Scope → ℕ → ℕ → Option Role → List Visit
token_visits ts s n k None = []
token_visits ts s n k (Some r) = visit (role_use ts s n k r) (span_at ts k) ∷ []

-- m tokens of an expression from place k on, after n nodes
abbrev pub expr_visits : List Token → Scope → ℕ → ℕ → ℕ → List Visit
expr_visits ts s n k zero = []
expr_visits ts s n k (suc m) = token_visits ts s n k (role_at ts k) ++ expr_visits ts s (n + is_node_at (role_at ts k)) (k + 1) m

-- how many of m tokens from place k on are nodes
abbrev pub nodes : List Token → ℕ → ℕ → ℕ
nodes ts k zero = 0
nodes ts k (suc m) = is_node_at (role_at ts k) + nodes ts (k + 1) m

-- the tokens of an expression, after n nodes
abbrev pub value_visits : List Token → Scope → ℕ → Places → List Visit
value_visits ts s n p = expr_visits ts s n p.from (p.to - p.from)

-- the nodes of an expression
abbrev pub value_nodes : List Token → Places → ℕ
value_nodes ts p = nodes ts p.from (p.to - p.from)

-- the nodes of lets
abbrev pub nodes_before : List Token → List RawLet → ℕ
nodes_before ts before = sum_by (λ l. value_nodes ts l.value) before

-- a let's name and expression, which speaks of the lets before it
abbrev pub let_visits : List Token → List Item → List RawArg → List RawLet → RawLet → List Visit
let_visits ts items args before l =
    visit (LetName args before) l.name ∷ value_visits ts (scope items args before) (nodes_before ts before) l.value

-- a predicate's lets and sign expression
abbrev pub body_visits : List Token → List Item → List RawArg → List RawLet → Places → List Visit
body_visits ts before args lets root =
    visits_by (let_visits ts before args) [] lets ++ value_visits ts (scope before args lets) (nodes_before ts lets) root

-- a predicate's arguments, lets and sign expression
abbrev pub pred_visits : List Token → List Item → List RawArg → List RawLet → Places → List Visit
pred_visits ts before args lets root = visits_by (arg_visits before) [] args ++ body_visits ts before args lets root

-- an item after others
abbrev pub item_visits : List Token → List Item → Item → List Visit
item_visits ts before (SiteItem name coords) = visit (SiteName before) name ∷ visits_by coord_visits [] coords
item_visits ts before (ParamItem name range) = visit (ParamName before) name ∷ range_visits range
item_visits ts before (PredItem name args lets root) =
    visit (PredName before) name ∷ pred_visits ts before args lets root

-- the tokens of the file
abbrev pub file_visits : List Token → List Item → List Visit
file_visits ts is = visits_by (item_visits ts) [] is

-- the fault of a token, or else what comes later
abbrev pub or_later : Option Fault → Span → Option Found → Option Found
or_later (Some f) at later = Some (record { fault = f; at = at })
or_later None at later = later

-- the first fault of tokens
abbrev pub first_fault : List ℕ → List Visit → Option Found
first_fault bytes [] = None
first_fault bytes (v ∷ vs) = or_later (fault_at bytes v.use_of v.at) v.at (first_fault bytes vs)
