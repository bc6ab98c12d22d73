-- What holds of a source without a fault, for the code that builds its table: names are names, numbers fit, and what names stand for is there.
use Rattle.std.specs.Prelude.{◌≡◌, ◌+◌, ℕ, nat_lt, nat_le, ◌&&◌, ◌<◌, ◌≤◌, Bool, true, List, [], ◌++◌, length, count_by}
use Rattle.std.specs.List.{list_all}
use Rattle.ln_syntax.specs.Raw.{Span, Token, Item, SiteItem, ParamItem, PredItem, Is, is_site, is_param, is_pred, text, Semi}
use Rattle.ln_base.specs.Words.{is_name}
use Rattle.ln_names.specs.Rules.{RawCoord, RawRange, RawArg, RawLet, Places, Scope, scope, is_site_arg, is_param_arg, coords_at}
use Rattle.ln_syntax.specs.Expression.{Tree, Derives, Sum}
use Rattle.ln_names.specs.Visits.{nodes_before, value_nodes}
use Rattle.ln_names.specs.Nodes.{Begins}
pub use Rattle.ln_names.specs.Limits.{Each, RangeWithin, IsKnown, Fit}
use Rattle.ln_parse.specs.Says.{node_count, CoordOf, SiteOf, resolved, site_names, param_names, sites_said, params_said}
use Rattle.ln_tree.specs.Whole.{is_range}

-- a name of the language, of at most 32 bytes
pub record IsNamed (bytes : List ℕ) (at : Span) : Type 0 where
  pub named : is_name (text bytes at) ≡ true
  pub short : length (text bytes at) ≤ 32

-- the tokens at these places are a fit expression, before a semicolon
pub record ReadyValue (bytes : List ℕ) (ts : List Token) (s : Scope) (p : Places) : Type 0 where
  pub tree : Tree
  pub derives : Derives ts Sum p.from p.to tree
  pub ends : Is ts p.to Semi
  pub begins : Begins ts p.from
  pub fit : Fit bytes s tree
  pub counted : node_count (resolved bytes s tree) ≡ value_nodes ts p

-- arguments, lets and coordinates are so few that a byte counts them
pub record IsNarrow (bytes : List ℕ) (s : Scope) : Type 0 where
  pub args : length s.args < 256
  pub lets : length s.lets < 256
  pub coords : (at : Span) → length (coords_at bytes s at) < 256

-- a site type has 1 to 32 coordinates, each with its range
abbrev pub is_good_site : SiteOf → Bool
is_good_site s = nat_lt 0 (length s.coords) && nat_le (length s.coords) 32 && list_all is_range s.coords

-- the site types and params of a table begin with those that items declare
pub record Declares (bytes : List ℕ) (is : List Item) (sites : List SiteOf) (params : List CoordOf) : Type 0 where
  pub more_sites : List SiteOf
  pub sites_are : sites ≡ sites_said bytes is ++ more_sites
  pub more_params : List CoordOf
  pub params_are : params ≡ params_said bytes is ++ more_params
  pub good_sites : list_all is_good_site sites ≡ true
  pub good_params : list_all is_range params ≡ true

-- a coordinate whose name and range fit
pub record ReadyCoord (bytes : List ℕ) (c : RawCoord) : Type 0 where
  pub name : IsNamed bytes c.name
  pub range : RangeWithin bytes c.range

-- a site type with 1 to 32 such coordinates
pub record ReadySite (bytes : List ℕ) (at : Span) (cs : List RawCoord) : Type 0 where
  pub name : IsNamed bytes at
  pub some : 0 < length cs
  pub few : length cs ≤ 32
  pub coords : Each (λ before c. ReadyCoord bytes c) [] cs

-- a param whose name and range fit
pub record ReadyParam (bytes : List ℕ) (at : Span) (r : RawRange) : Type 0 where
  pub name : IsNamed bytes at
  pub range : RangeWithin bytes r

-- an argument whose name fits, and whose type or param is declared
pub record ReadyArg (bytes : List ℕ) (is : List Item) (a : RawArg) : Type 0 where
  pub name : IsNamed bytes a.name
  pub known : IsKnown bytes is a a.is_param

-- a let whose name and expression fit
pub record ReadyLet (bytes : List ℕ) (ts : List Token) (is : List Item) (as' : List RawArg) (before : List RawLet)
    (l : RawLet) : Type 0 where
  pub name : IsNamed bytes l.name
  pub value : ReadyValue bytes ts (scope is as' before) l.value

-- a site type has at most 32 coordinates
abbrev pub is_few : Item → Bool
is_few (SiteItem name cs) = nat_le (length cs) 32
is_few i = true

-- a predicate after these items, whose parts fit
pub record ReadyPred (bytes : List ℕ) (ts : List Token) (is : List Item) (at : Span) (as' : List RawArg) (ls : List RawLet)
    (p : Places) : Type 0 where
  pub name : IsNamed bytes at
  pub site_args : count_by is_site_arg as' ≤ 5
  pub param_args : count_by is_param_arg as' ≤ 8
  pub args : Each (λ before a. ReadyArg bytes is a) [] as'
  pub let_count : length ls ≤ 64
  pub lets : Each (ReadyLet bytes ts is as') [] ls
  pub root : ReadyValue bytes ts (scope is as' ls) p
  pub nodes : nodes_before ts ls + value_nodes ts p ≤ 2048
  pub few : list_all is_few is ≡ true
  pub sites : length (site_names is) ≤ 16
  pub params : length (param_names is) ≤ 16

-- an item after others, whose parts fit
abbrev pub ReadyItem : List ℕ → List Token → List Item → Item → Type 0
ReadyItem bytes ts before (SiteItem at cs) = ReadySite bytes at cs
ReadyItem bytes ts before (ParamItem at r) = ReadyParam bytes at r
ReadyItem bytes ts before (PredItem at args ls p) = ReadyPred bytes ts before at args ls p

-- the items of a file, whose parts fit
pub record ReadyFile (bytes : List ℕ) (ts : List Token) (is : List Item) : Type 0 where
  pub sites : count_by is_site is ≤ 16
  pub params : count_by is_param is ≤ 16
  pub preds : count_by is_pred is ≤ 16
  pub each : Each (ReadyItem bytes ts) [] is

-- items of some file, whose parts fit
pub record AreReady (bytes : List ℕ) (is : List Item) : Type 0 where
  pub tokens : List Token
  pub each : Each (ReadyItem bytes tokens) [] is
