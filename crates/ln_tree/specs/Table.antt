-- Tables without where they lie in memory.
use Rattle.std.specs.Prelude.{ℕ, ◌&&◌, nat_le, Bool, ℤ, List, length, map}
use Rattle.std.specs.List.{list_all}
use Rattle.ln_base.specs.declared.span.Span.{Span}
use Rattle.ln_tree.specs.declared.shape.VarInfo.{VarInfo}
use Rattle.ln_tree.specs.declared.items.Coord.{Coord}
use Rattle.ln_tree.specs.declared.items.Site.{Site}
use Rattle.ln_tree.specs.declared.items.Param.{Param}
use Rattle.ln_tree.specs.declared.items.Arg.{Arg}
use Rattle.ln_tree.specs.declared.items.Arg.TheVariants.{Site as IsSite, Param as IsParam}
use Rattle.ln_tree.specs.declared.pred.Pred.{Pred}
use Rattle.ln_tree.specs.Names.{name_bytes}
use Rattle.ln_tree.specs.Arguments.{args_fit}
use Rattle.ln_tree.specs.Formula.{Formula, formula}

-- a coordinate or a param with its range
pub record CoordOf : Type 0 where
  pub name : List ℕ
  pub lo : ℤ
  pub hi : ℤ

-- a site type
pub record SiteOf : Type 0 where
  pub name : List ℕ
  pub coords : List CoordOf

-- a site argument with its name and the number of its type, or the param of this number
pub data ArgOf : Type 0 where
  SiteArg : List ℕ → ℕ → ArgOf
  ParamArg : ℕ → ArgOf

-- a predicate: where its name is, its arguments, the name, sites and variables of its shape, its lets, its sign expression
pub record PredOf : Type 0 where
  pub name : List ℕ
  pub at : Span
  pub args : List ArgOf
  pub shape_name : List ℕ
  pub sites : ℕ
  pub vars : List VarInfo
  pub let_names : List (List ℕ)
  pub lets : List Formula
  pub root : Formula

-- a table
pub record TableOf : Type 0 where
  pub sites : List SiteOf
  pub params : List CoordOf
  pub preds : List PredOf

-- a coordinate of the program, without where it lies in memory
abbrev pub coord_of : Coord → CoordOf
coord_of c = record { name = name_bytes c.name; lo = c.lo; hi = c.hi }

-- a site type of the program, without where it lies in memory
abbrev pub site_of : Site → SiteOf
site_of s = record { name = name_bytes s.name; coords = map coord_of s.coords }

-- a param of the program, without where it lies in memory
abbrev pub param_of : Param → CoordOf
param_of p = record { name = name_bytes p.name; lo = p.lo; hi = p.hi }

-- an argument of the program, without where it lies in memory
abbrev pub arg_of : Arg → ArgOf
arg_of (IsSite n t) = SiteArg (name_bytes n) t
arg_of (IsParam p) = ParamArg p

-- a predicate of the program, without where it lies in memory
abbrev pub pred_of : Pred → PredOf
pred_of p = record {
  name = name_bytes p.name;
  at = p.at;
  args = map arg_of p.args;
  shape_name = name_bytes p.shape.name;
  sites = p.shape.sites;
  vars = p.shape.vars;
  let_names = map name_bytes p.let_names;
  lets = map formula p.lets;
  root =
      formula p.root;
}

-- the table of lists of the program
abbrev pub table_of : List Site → List Param → List Pred → TableOf
table_of sites params preds = record { sites = map site_of sites; params = map param_of params; preds = map pred_of preds }

-- the arguments of a predicate are of these site types and params
abbrev pub pred_fits : List Site → List Param → Pred → Bool
pred_fits sites params p = args_fit sites params p.shape.vars 0 p.args

-- at most 16 site types, 16 params and 16 predicates; the arguments are of the site types and params
abbrev pub is_table : List Site → List Param → List Pred → Bool
is_table sites params preds = nat_le (length sites) 16 && nat_le (length params) 16 && nat_le (length preds) 16
    && list_all (pred_fits sites params) preds
