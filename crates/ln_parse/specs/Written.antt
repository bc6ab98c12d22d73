-- Expressions with their names as texts, and without spans.
use Rattle.std.specs.Prelude.{◌≡◌, ◌<◌, ◌^◌, true, ℕ, List, [], Option, Some, None, slice_get, unwrap_or, unsigned_abs}
use Rattle.ln_base.specs.Words.{is_name}
use Rattle.ln_syntax.specs.Raw.{text}
use Rattle.ln_syntax.specs.Expression.{Tree, TNum, TName, TInput, TNeg, TAdd, TSub, TMul, TPow}
use Rattle.ln_names.specs.Numbers.{number}
pub use Rattle.ln_tree.specs.Whole.{range_name}
pub use Rattle.ln_tree.specs.Formula.{Formula, FNum, FInput, FName, FNeg, FAdd, FSub, FMul, FPow, formula, node_formula, tree}
pub use Rattle.ln_tree.specs.Table.{CoordOf, SiteOf, ArgOf, SiteArg, ParamArg, PredOf, TableOf, arg_of, param_of, pred_of, site_of, table_of}

-- an expression as it is written: a number, a bare name, an input as an argument's name and a coordinate's, or an operation
pub data Written : Type 0 where
  WNum : ℕ → Written
  WName : List ℕ → Written
  WInput : List ℕ → List ℕ → Written
  WNeg : Written → Written
  WAdd : Written → Written → Written
  WSub : Written → Written → Written
  WMul : Written → Written → Written
  WPow : Written → ℕ → Written

-- what the names of an expression are taken from: the table's site types and params, the predicate's arguments and the names of its lets
pub record Naming : Type 0 where
  pub sites : List SiteOf
  pub params : List CoordOf
  pub args : List ArgOf
  pub lets : List (List ℕ)

-- what the names in a predicate of the table are taken from
abbrev pub naming : TableOf → PredOf → Naming
naming t p = record { sites = t.sites; params = t.params; args = p.args; lets = p.let_names }

-- the name of a site type that there is
abbrev pub site_name : Option SiteOf → List ℕ
site_name None = []
site_name (Some s) = s.name

-- the name of coordinate c of a site type
abbrev pub coord_name : Option SiteOf → ℕ → List ℕ
coord_name None c = []
coord_name (Some s) c = range_name (slice_get s.coords c)

-- an input: of a site argument its name and the coordinate's, of a param argument the param's name
abbrev pub input : Naming → Option ArgOf → ℕ → Written
input n None c = WName []
input n (Some (SiteArg a s)) c = WInput a (coord_name (slice_get n.sites s) c)
input n (Some (ParamArg p)) c = WName (range_name (slice_get n.params p))

-- a formula as it is written
abbrev pub written : Naming → Formula → Written
written n (FNum at c) = WNum (unsigned_abs c)
written n (FInput at a c) = input n (slice_get n.args a) c
written n (FName at j) = WName (unwrap_or (slice_get n.lets j) [])
written n (FNeg at e) = WNeg (written n e)
written n (FAdd at e f) = WAdd (written n e) (written n f)
written n (FSub at e f) = WSub (written n e) (written n f)
written n (FMul at e f) = WMul (written n e) (written n f)
written n (FPow at e k) = WPow (written n e) k

-- a tree of the grammar as it is written in these bytes
abbrev pub spelling : List ℕ → Tree → Written
spelling bytes (TNum at) = WNum (number bytes at)
spelling bytes (TName at) = WName (text bytes at)
spelling bytes (TInput at x) = WInput (text bytes at) (text bytes x)
spelling bytes (TNeg at e) = WNeg (spelling bytes e)
spelling bytes (TAdd at e f) = WAdd (spelling bytes e) (spelling bytes f)
spelling bytes (TSub at e f) = WSub (spelling bytes e) (spelling bytes f)
spelling bytes (TMul at e f) = WMul (spelling bytes e) (spelling bytes f)
spelling bytes (TPow at e n) = WPow (spelling bytes e) (number bytes n)

-- its names are NAMEs, and its numbers have at most 64 digits
abbrev pub IsNamed : Written → Type 0
IsNamed (WNum n) = n < 10 ^ 64
IsNamed (WName t) = is_name t ≡ true
IsNamed (WInput t x) = (is_name t ≡ true) × (is_name x ≡ true)
IsNamed (WNeg e) = IsNamed e
IsNamed (WAdd e f) = IsNamed e × IsNamed f
IsNamed (WSub e f) = IsNamed e × IsNamed f
IsNamed (WMul e f) = IsNamed e × IsNamed f
IsNamed (WPow e n) = IsNamed e × (n < 10 ^ 64)
