-- The nodes of an expression in postfix order, with names resolved and literals read.
use Rattle.std.specs.Prelude.{◌≡◌, ℕ, ◌-◌, pos, false, List, [], ◌∷◌, ◌++◌, Option, Some, None, unwrap_or}
use Rattle.ln_syntax.specs.Raw.{Span, Token, Item, PredItem, Is, kind_at, Semi}
use Rattle.ln_names.specs.Rules.{RawArg, RawLet, Places, Scope, scope, coords_at}
use Rattle.ln_syntax.specs.Expression.{Tree, TNum, TName, TInput, TNeg, TAdd, TSub, TMul, TPow, Derives, Sum as SumOf}
use Rattle.ln_names.specs.declared.nodes.Node.{Node}
use Rattle.ln_names.specs.declared.nodes.Body.{Body}
use Rattle.ln_names.specs.declared.nodes.What.{What}
use Rattle.ln_names.specs.declared.nodes.What.TheVariants as what
use Rattle.ln_names.specs.declared.resolve.ArgKind.TheVariants.{Site, Param}
use Rattle.ln_names.specs.declared.nodes.Operation.TheVariants.{Negation, Sum, Difference, Product}
use Rattle.ln_names.specs.Numbers.{number}
use Rattle.ln_names.specs.Resolve.{let_place, arg_place, coord_place}
use Rattle.ln_names.specs.Visits.{is_dot, is_caret, ends_operand}

-- the node of this token
abbrev pub node : What → Span → Node
node w at = record { what = w; at = at }

-- a bare name: an earlier let, else a param argument; the rules on names see to it that there is one
abbrev pub name_node_of : List ℕ → Scope → Span → Option ℕ → What
name_node_of bytes s at (Some j) = what.Let j
name_node_of bytes s at None = what.Input (unwrap_or (arg_place bytes (Some Param) s.args at) 0) 0

-- what a bare name stands for
abbrev pub named : List ℕ → Scope → Span → What
named bytes s at = name_node_of bytes s at (let_place bytes s.lets at)

-- what an input stands for: a site argument and a coordinate of its site type
abbrev pub input_of : List ℕ → Scope → Span → Span → What
input_of bytes s at x = what.Input (unwrap_or (arg_place bytes (Some Site) s.args at) 0) (unwrap_or (coord_place bytes (coords_at bytes s at) x) 0)

-- the nodes of a tree in postfix order, after others
abbrev pub postfix : List ℕ → Scope → Tree → List Node → List Node
postfix bytes s (TNum at) ns = ns ++ (node (what.Number (pos (number bytes at))) at ∷ [])
postfix bytes s (TName at) ns = ns ++ (node (named bytes s at) at ∷ [])
postfix bytes s (TInput at x) ns = ns ++ (node (input_of bytes s at x) at ∷ [])
postfix bytes s (TNeg at e) ns = postfix bytes s e ns ++ (node (what.Apply Negation) at ∷ [])
postfix bytes s (TAdd at e f) ns = postfix bytes s f (postfix bytes s e ns) ++ (node (what.Apply Sum) at ∷ [])
postfix bytes s (TSub at e f) ns = postfix bytes s f (postfix bytes s e ns) ++ (node (what.Apply Difference) at ∷ [])
postfix bytes s (TMul at e f) ns = postfix bytes s f (postfix bytes s e ns) ++ (node (what.Apply Product) at ∷ [])
postfix bytes s (TPow at e n) ns = postfix bytes s e ns ++ (node (what.Power (number bytes n)) at ∷ [])

-- an expression may begin at this place: the token before it is neither a caret nor a dot, and no operand ends with it
pub record Begins (ts : List Token) (i : ℕ) : Type 0 where
  pub no_caret : is_caret (kind_at ts (i - 1)) ≡ false
  pub no_dot : is_dot (kind_at ts (i - 1)) ≡ false
  pub no_operand : ends_operand (kind_at ts (i - 1)) ≡ false

-- the nodes of the tree that the tokens at these places are, before a semicolon
abbrev pub AreNodes : List ℕ → List Token → Scope → Places → List Node → Type 0
AreNodes bytes ts s p ns = (e : Tree) → Derives ts SumOf p.from p.to e → Is ts p.to Semi → Begins ts p.from → ns ≡ postfix bytes s e []

-- each element of a list, with those before it, and its companion in another list
abbrev pub ArePairedBy : {A B : Type 0} → (List A → A → B → Type 0) → List A → List A → List B → Type 0
ArePairedBy P before [] [] = Unit {0}
ArePairedBy P before [] (y ∷ ys) = ⊥
ArePairedBy P before (x ∷ xs) [] = ⊥
ArePairedBy P before (x ∷ xs) (y ∷ ys) = P before x y × ArePairedBy P (before ++ (x ∷ [])) xs ys

-- the nodes of each let, which speaks of the lets before it
abbrev pub LetsNodes : List ℕ → List Token → List Item → List RawArg → List RawLet → List (List Node) → Type 0
LetsNodes bytes ts is args ls vs = ArePairedBy (λ before l v. AreNodes bytes ts (scope is args before) l.value v) [] ls vs

-- the nodes of a predicate's lets and of its sign expression
pub record PredNodes (bytes : List ℕ) (ts : List Token) (is : List Item) (args : List RawArg) (ls : List RawLet) (sign : Places) (b : Body) : Type 0 where
  pub lets : LetsNodes bytes ts is args ls b.lets
  pub root : AreNodes bytes ts (scope is args ls) sign b.root

-- the nodes of an item after these: those of a predicate
abbrev pub BodyIs : List ℕ → List Token → List Item → Item → Body → Type 0
BodyIs bytes ts before (PredItem name args ls root) b = PredNodes bytes ts before args ls root b
BodyIs bytes ts before i b = Unit {0}

-- the nodes of the items of a file
abbrev pub BodiesAre : List ℕ → List Token → List Item → List Body → Type 0
BodiesAre bytes ts is bs = ArePairedBy (BodyIs bytes ts) [] is bs
