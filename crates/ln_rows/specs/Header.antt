-- Defines the header of a rows file: the names of the columns of a predicate, over what its table stands for.
use Rattle.std.specs.Prelude.{ℕ, List, [], ◌∷◌, ◌++◌, map, flat_map, Option, Some, None, slice_get, ◌≡◌, ◌≢◌, Bool, true, false}
use Rattle.ln_tree.specs.declared.table.Table.{Table}
use Rattle.ln_tree.specs.declared.pred.Pred.{Pred}
use Rattle.ln_rows.specs.Columns.{column_names}
use Rattle.ln_tree.specs.Table.{CoordOf, SiteOf, ArgOf, SiteArg, ParamArg, PredOf, TableOf}
use Rattle.ln_rows.specs.Left.{Records}

-- the site's name, a dot and the coordinate's name
abbrev pub coord_name : List ℕ → CoordOf → List ℕ
coord_name site c = site ++ 46 ∷ c.name

-- a site's index, named as the site, and its coordinates
abbrev pub site_names : List ℕ → Option SiteOf → List (List ℕ)
site_names site None = site ∷ []
site_names site (Some t) = site ∷ map (coord_name site) t.coords

-- the name of the column of a param, which is the param's own name; none where there is no such param
abbrev pub param_names : Option CoordOf → List (List ℕ)
param_names None = []
param_names (Some p) = p.name ∷ []

-- the names of the columns of an argument: of a site, by its type, or of a param
abbrev pub arg_names : List SiteOf → List CoordOf → ArgOf → List (List ℕ)
arg_names sites params (SiteArg n t) = site_names n (slice_get sites t)
arg_names sites params (ParamArg p) = param_names (slice_get params p)

-- the names of the columns of these arguments, in order, over these site types and params
abbrev pub names_over : List SiteOf → List CoordOf → List ArgOf → List (List ℕ)
names_over sites params args = flat_map (arg_names sites params) args

-- the names of the columns of a predicate of a table, in order
abbrev pub columns_of : TableOf → PredOf → List (List ℕ)
columns_of t p = names_over t.sites t.params p.args

-- the same over a table and a predicate in memory
abbrev pub names_of : Table → Pred → List (List ℕ)
names_of t p = column_names t.sites t.params p.args

-- the first record isn't the columns' names, or there is none
abbrev pub IsWrongHeader : List (List ℕ) → Records → Type 0
IsWrongHeader names [] = Unit {0}
IsWrongHeader names (first ∷ rest) = first ≢ names

-- the first record was taken: it is the columns' names, or the header is wrong
abbrev pub HeaderIs : List (List ℕ) → Records → Records → Bool → Type 0
HeaderIs names old new true = old ≡ names ∷ new
HeaderIs names old new false = IsWrongHeader names old
