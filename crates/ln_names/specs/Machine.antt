-- How the nodes of an expression are read in one pass over its tokens: those whose operands were read, and what waits.
use Rattle.std.specs.Prelude.{◌≡◌, ℕ, zero, suc, ◌-◌, pos, Bool, true, false, if◌then◌else◌, nat_lt, List, [], ◌∷◌, ◌++◌, Option, Some, None, reverse}
use Rattle.ln_syntax.specs.Raw.{Span, Token, kind_at, span_at, Kind, ParL, ParR}
use Rattle.ln_names.specs.declared.nodes.Node.{Node}
use Rattle.ln_names.specs.declared.nodes.What.TheVariants as what
use Rattle.ln_names.specs.declared.nodes.Operation.{Operation}
use Rattle.ln_names.specs.declared.nodes.Operation.TheVariants.{Negation, Sum, Difference, Product}
use Rattle.ln_names.specs.declared.nodes.Waiting.{Waiting}
use Rattle.ln_names.specs.declared.nodes.Waiting.TheVariants.{Open, For}
use Rattle.ln_names.specs.declared.reading.Reading.{Reading}
use Rattle.ln_names.specs.declared.roles.Role.{Role}
use Rattle.ln_names.specs.declared.roles.Role.TheVariants.{Value, AfterCaret, Bare, AfterDot, Operator}
use Rattle.ln_names.specs.Numbers.{number}
use Rattle.ln_names.specs.Rules.{Scope}
use Rattle.ln_names.specs.Visits.{role_at}
use Rattle.ln_names.specs.Nodes.{node, named, input_of}

-- how tightly an operation binds its operands
abbrev pub binding : Operation → ℕ
binding Negation = 3
binding Product = 2
binding Sum = 1
binding Difference = 1

-- the nodes whose operands were read, and the operations and parentheses that wait, the last first
pub record Machine : Type 0 where
  pub waiting : List Waiting
  pub nodes : List Node

-- a machine of these
abbrev pub machine : List Waiting → List Node → Machine
machine ws ns = record { waiting = ws; nodes = ns }

-- one more node, if there is one
abbrev pub emit_if : Machine → Option Node → Machine
emit_if m None = m
emit_if m (Some n) = machine m.waiting (m.nodes ++ (n ∷ []))

-- operations that wait and bind at least this tightly have their operands, and are nodes
abbrev pub settle : ℕ → List Waiting → List Node → Machine
settle b [] ns = machine [] ns
settle b (Open ∷ ws) ns = machine (Open ∷ ws) ns
settle b (For p at ∷ ws) ns = if nat_lt (binding p) b then machine (For p at ∷ ws) ns else settle b ws (ns ++ (node (what.Apply p) at ∷ []))

-- the same of a machine
abbrev pub settled : ℕ → Machine → Machine
settled b m = settle b m.waiting m.nodes

-- what is settled of a machine may become more, or is settled already
abbrev pub Settles : Bool → ℕ → Machine → Machine → Type 0
Settles true b m n = settled b n ≡ settled b m
Settles false b m n = n ≡ settled b m

-- one more operation or parenthesis waits
abbrev pub wait : Machine → Waiting → Machine
wait m w = machine (w ∷ m.waiting) m.nodes

-- an operation comes: what binds its left operand at least as tightly is settled; a negation has none
abbrev pub operate : Operation → Span → Machine → Machine
operate Negation at m = wait m (For Negation at)
operate p at m = wait (settled (binding p) m) (For p at)

-- what waits but for the last
abbrev pub waiting_outside : List Waiting → List Waiting
waiting_outside [] = []
waiting_outside (w ∷ ws) = ws

-- the parenthesis that waits is closed
abbrev pub closed : Machine → Machine
closed m = machine (waiting_outside m.waiting) m.nodes

-- a parenthesis; any other token is nothing
abbrev pub enclose : Option Kind → Machine → Machine
enclose (Some ParL) m = wait m Open
enclose (Some ParR) m = closed (settled 1 m)
enclose o m = m

-- the node whose last token is at place k, where that token has this role; an operation's node comes after its right operand
abbrev pub node_at : List ℕ → List Token → Scope → ℕ → Role → Option Node
node_at bytes ts s k Value = Some (node (what.Number (pos (number bytes (span_at ts k)))) (span_at ts k))
node_at bytes ts s k Bare = Some (node (named bytes s (span_at ts k)) (span_at ts k))
node_at bytes ts s k AfterDot = Some (node (input_of bytes s (span_at ts (k - 2)) (span_at ts k)) (span_at ts (k - 2)))
node_at bytes ts s k AfterCaret = Some (node (what.Power (number bytes (span_at ts k))) (span_at ts (k - 1)))
node_at bytes ts s k r = None

-- the token at place k, which has this role
abbrev pub step_by : List ℕ → List Token → Scope → ℕ → Option Role → Machine → Machine
step_by bytes ts s k None m = enclose (kind_at ts k) m
step_by bytes ts s k (Some (Operator p)) m = operate p (span_at ts k) m
step_by bytes ts s k (Some r) m = emit_if m (node_at bytes ts s k r)

-- the token at place k
abbrev pub machine_step : List ℕ → List Token → Scope → ℕ → Machine → Machine
machine_step bytes ts s k m = step_by bytes ts s k (role_at ts k) m

-- n tokens from place k on
abbrev pub read : List ℕ → List Token → Scope → ℕ → ℕ → Machine → Machine
read bytes ts s k zero m = m
read bytes ts s k (suc n) m = read bytes ts s (suc k) n (machine_step bytes ts s k m)

-- the machine that a reading is: what waits last is first
abbrev pub machine_in : Reading → Machine
machine_in r = machine (reverse r.waiting.items) r.nodes
