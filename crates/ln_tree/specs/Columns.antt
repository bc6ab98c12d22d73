-- The names of the columns of a predicate.
use Rattle.std.specs.Prelude.{ℕ, List, [], ◌∷◌, ◌++◌, map, flat_map, Option, Some, None, slice_get}
use Rattle.ln_tree.specs.Names.{name_bytes}
use Rattle.ln_tree.specs.declared.name.Name.{Name}
use Rattle.ln_tree.specs.declared.items.Arg.{Arg}
use Rattle.ln_tree.specs.declared.items.Arg.TheVariants.{Site as SiteArg, Param as ParamArg}
use Rattle.ln_tree.specs.declared.items.Coord.{Coord}
use Rattle.ln_tree.specs.declared.items.Site.{Site}
use Rattle.ln_tree.specs.declared.items.Param.{Param}

-- the name of the column of a coordinate: the site's name, a dot and the coordinate's name
abbrev pub coord_column : Name → Coord → List ℕ
coord_column site c = name_bytes site ++ 46 ∷ name_bytes c.name

-- the columns of a site of this type: its index, named as the site, and its coordinates
abbrev pub site_columns : Name → Option Site → List (List ℕ)
site_columns site None = name_bytes site ∷ []
site_columns site (Some t) = name_bytes site ∷ map (coord_column site) t.coords

-- the column of a param, named as the param
abbrev pub param_columns : Option Param → List (List ℕ)
param_columns None = []
param_columns (Some p) = name_bytes p.name ∷ []

-- the columns of an argument: those of a site, by its type, or that of a param
abbrev pub arg_columns : List Site → List Param → Arg → List (List ℕ)
arg_columns sites params (SiteArg n t) = site_columns n (slice_get sites t)
arg_columns sites params (ParamArg p) = param_columns (slice_get params p)

-- the names of the columns of a predicate with these arguments, in order
abbrev pub column_names : List Site → List Param → List Arg → List (List ℕ)
column_names sites params args = flat_map (arg_columns sites params) args
