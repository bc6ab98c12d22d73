-- What tokens say: the table of items and expressions, once names are resolved.
use Rattle.std.specs.Prelude.{◌≡◌, ℕ, pos, ◌&&◌, Bool, true, false, List, [], ◌∷◌, ◌++◌, if◌then◌else◌, Option, Some, None, map}
use Rattle.std.specs.Prelude.{filter_map, position, unwrap_or, count_by}
use Rattle.ln_syntax.specs.Raw.{Span, Token, Item, SiteItem, ParamItem, PredItem, Is, text, same, Semi}
pub use Rattle.ln_names.specs.Rules.{RawEnd, RawRange, RawCoord, RawArg, RawLet, Places}
use Rattle.ln_names.specs.Rules.{Scope, scope, is_site_arg, is_param_arg, coords_at}
use Rattle.ln_syntax.specs.Expression.{Tree, TNum, TName, TInput, TNeg, TAdd, TSub, TMul, TPow, Derives, Sum}
use Rattle.ln_names.specs.Numbers.{number, end_value}
use Rattle.ln_names.specs.Nodes.{ArePairedBy}
pub use Rattle.ln_tree.specs.Whole.{site_vars, coords_or, param_vars, vars_behind, is_site_said}
pub use Rattle.ln_tree.specs.Table.{CoordOf, SiteOf, ArgOf, SiteArg, ParamArg, PredOf, TableOf, arg_of, coord_of, param_of, pred_fits, site_of, table_of}
pub use Rattle.ln_tree.specs.Formula.{Formula, FNum, FInput, FName, FNeg, FAdd, FSub, FMul, FPow, formula, node_count, node_counts, tree}

-- the place of the first that passes; the rules of names see to it that there is one
abbrev pub place : {A : Type 0} → (A → Bool) → List A → ℕ
place p xs = unwrap_or (position p xs) 0

-- a name with its range
abbrev pub ranged : List ℕ → Span → RawRange → CoordOf
ranged bytes name r = record { name = text bytes name; lo = end_value bytes r.low; hi = end_value bytes r.high }

-- the name of a param where the test says so, and else of a site type; of another item none
abbrev pub name_if : Bool → Item → Option Span
name_if is_param (SiteItem name cs) = if is_param then None else Some name
name_if is_param (ParamItem name r) = if is_param then Some name else None
name_if is_param (PredItem name args ls root) = None

-- the names of the site types among the items
abbrev pub site_names : List Item → List Span
site_names is = filter_map (name_if false) is

-- the names of the params among the items
abbrev pub param_names : List Item → List Span
param_names is = filter_map (name_if true) is

-- a bare name: an earlier let, else a param argument
abbrev pub name_of : List ℕ → Scope → Span → Option ℕ → Formula
name_of bytes s at (Some j) = FName at j
name_of bytes s at None = FInput at (place (λ a. is_param_arg a && same bytes a.name at) s.args) 0

-- an expression with its names resolved
abbrev pub resolved : List ℕ → Scope → Tree → Formula
resolved bytes s (TNum at) = FNum at (pos (number bytes at))
resolved bytes s (TName at) = name_of bytes s at (position (λ l. same bytes l.name at) s.lets)
resolved bytes s (TInput at x) = FInput at (place (λ a. is_site_arg a && same bytes a.name at) s.args)
    (place (λ c. same bytes c.name x) (coords_at bytes s at))
resolved bytes s (TNeg at e) = FNeg at (resolved bytes s e)
resolved bytes s (TAdd at e f) = FAdd at (resolved bytes s e) (resolved bytes s f)
resolved bytes s (TSub at e f) = FSub at (resolved bytes s e) (resolved bytes s f)
resolved bytes s (TMul at e f) = FMul at (resolved bytes s e) (resolved bytes s f)
resolved bytes s (TPow at e n) = FPow at (resolved bytes s e) (number bytes n)

-- the tokens of an expression, before a semicolon, say this formula
pub record Says (bytes : List ℕ) (ts : List Token) (s : Scope) (p : Places) (x : Formula) : Type 0 where
  pub tree : Tree
  pub derives : Derives ts Sum p.from p.to tree
  pub ends : Is ts p.to Semi
  pub means : resolved bytes s tree ≡ x

-- the lets say these formulas, each after the lets before it
abbrev pub LetsSay : List ℕ → List Token → List Item → List RawArg → List RawLet → List RawLet → List Formula → Type 0
LetsSay bytes ts is args before ls xs = ArePairedBy (λ before l x. Says bytes ts (scope is args before) l.value x) before ls xs

-- an argument: the param of its name, or a site of the type after its colon
abbrev pub arg_said : List ℕ → List Item → RawArg → Bool → ArgOf
arg_said bytes is a true = ParamArg (place (λ n. same bytes n a.name) (param_names is))
arg_said bytes is a false = SiteArg (text bytes a.name) (place (λ n. same bytes n a.kind) (site_names is))

-- the tokens of a predicate, after these items, say this predicate of the table
pub record PredSays (bytes : List ℕ) (ts : List Token) (is : List Item) (t : TableOf) (name : Span) (args : List RawArg)
    (ls : List RawLet) (root : Places) (p : PredOf) : Type 0 where
  pub name_is : p.name ≡ text bytes name
  pub at_is : p.at ≡ name
  pub args_are : p.args ≡ map (λ a. arg_said bytes is a a.is_param) args
  pub shape_is : p.shape_name ≡ text bytes name
  pub sites_are : p.sites ≡ count_by is_site_said p.args
  pub vars_are : p.vars ≡ vars_behind t.sites t.params 0 0 p.args
  pub names_are : p.let_names ≡ map (λ l. text bytes l.name) ls
  pub lets_are : LetsSay bytes ts is args [] ls p.lets
  pub root_is : Says bytes ts (scope is args ls) root p.root

-- the site type that an item is, if it is one
abbrev pub site_said : List ℕ → Item → Option SiteOf
site_said bytes (SiteItem name coords) = Some (record { name = text bytes name; coords = map (λ c. ranged bytes c.name c.range) coords })
site_said bytes i = None

-- the param that an item is, if it is one
abbrev pub param_said : List ℕ → Item → Option CoordOf
param_said bytes (ParamItem name range) = Some (ranged bytes name range)
param_said bytes i = None

-- the site types among the items
abbrev pub sites_said : List ℕ → List Item → List SiteOf
sites_said bytes is = filter_map (site_said bytes) is

-- the params among the items
abbrev pub params_said : List ℕ → List Item → List CoordOf
params_said bytes is = filter_map (param_said bytes) is

-- the predicates among the items, after others
abbrev pub PredsSay : List ℕ → List Token → List Item → TableOf → List Item → List PredOf → Type 0
PredsSay bytes ts before t [] [] = Unit {0}
PredsSay bytes ts before t [] (p ∷ ps) = ⊥
PredsSay bytes ts before t (SiteItem n cs ∷ is) ps = PredsSay bytes ts (before ++ (SiteItem n cs ∷ [])) t is ps
PredsSay bytes ts before t (ParamItem n r ∷ is) ps = PredsSay bytes ts (before ++ (ParamItem n r ∷ [])) t is ps
PredsSay bytes ts before t (PredItem n args ls root ∷ is) [] = ⊥
PredsSay bytes ts before t (PredItem n args ls root ∷ is) (p ∷ ps) = PredSays bytes ts before t n args ls root p
    × PredsSay bytes ts (before ++ (PredItem n args ls root ∷ [])) t is ps

-- the items say the table: its site types, its params, its predicates
pub record ItemsSay (bytes : List ℕ) (ts : List Token) (is : List Item) (t : TableOf) : Type 0 where
  pub sites_are : t.sites ≡ sites_said bytes is
  pub params_are : t.params ≡ params_said bytes is
  pub preds_are : PredsSay bytes ts [] t is t.preds
