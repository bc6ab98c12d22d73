-- The first record is the header, or it is wrong; the columns' names in memory and over what a table stands for.
use Rattle.std.proofs.Common.{◌≡◌, ℕ, Bool, true, false, ◌++◌, List, [], ◌∷◌, map, Option, Some, None, option_map, slice_get}
use Rattle.std.proofs.Common.{refl, ap, sym, ◌∙◌}
use Rattle.std.proofs.lemmas.Option.{slice_get-map}
use Rattle.ln_tree.specs.Names.{name_bytes}
use Rattle.ln_tree.specs.declared.name.Name.{Name}
use Rattle.ln_tree.specs.declared.items.Arg.{Arg}
use Rattle.ln_tree.specs.declared.items.Arg.TheVariants.{Site as IsSite, Param as IsParam}
use Rattle.ln_tree.specs.declared.items.Coord.{Coord}
use Rattle.ln_tree.specs.declared.items.Site.{Site}
use Rattle.ln_tree.specs.declared.items.Param.{Param}
use Rattle.ln_tree.specs.Table.{coord_of, site_of, param_of, arg_of}
use Rattle.ln_rows.specs.Columns.{coord_column, site_columns, param_columns, arg_columns, column_names}
use Rattle.ln_rows.specs.Header.{HeaderIs, coord_name, site_names, param_names, arg_names, names_over}
use Rattle.ln_rows.specs.Left.{Records}

-- the first record is the columns' names or not
pub header_is : (names : List (List ℕ)) (old new : Records) (right : Bool) → (right ≡ true → old ≡ names ∷ new)
    → (right ≡ false → (rest : Records) → old ≡ names ∷ rest → ⊥) → HeaderIs names old new right
header_is names old new true h w = h refl
header_is names [] new false h w = tt
header_is names (first ∷ rest) new false h w = λ e. w refl rest (ap (λ (f : List (List ℕ)). f ∷ rest) e)

-- equal lists of records are equal after their first records
pub tail_same : {x y : List (List ℕ)} {xs ys : Records} → x ∷ xs ≡ y ∷ ys → xs ≡ ys
tail_same {xs = xs} e = ap (λ (zs : Records). elim zs [ [] ↦ xs | z ∷ rest ↦ rest ]) e

-- ---- names
coords_like : (n : Name) (cs : List Coord) → map (coord_column n) cs ≡ map (coord_name (name_bytes n)) (map coord_of cs)
coords_like n [] = refl
coords_like n (c ∷ cs) = ap (λ xs. coord_column n c ∷ xs) (coords_like n cs)

-- the columns of a site are those of what its type stands for
pub site_like : (n : Name) (o : Option Site) → site_columns n o ≡ site_names (name_bytes n) (option_map site_of o)
site_like n None = refl
site_like n (Some t) = ap (λ xs. name_bytes n ∷ xs) (coords_like n t.coords)

param_like : (o : Option Param) → param_columns o ≡ param_names (option_map param_of o)
param_like None = refl
param_like (Some p) = refl

arg_like : (sites : List Site) (params : List Param) (a : Arg)
    → arg_columns sites params a ≡ arg_names (map site_of sites) (map param_of params) (arg_of a)
arg_like sites params (IsSite n t) =
    site_like n (slice_get sites t) ∙ ap (site_names (name_bytes n)) (sym (slice_get-map site_of sites t))
arg_like sites params (IsParam p) = param_like (slice_get params p) ∙ ap param_names (sym (slice_get-map param_of params p))

-- the columns' names are those of what the table stands for
pub columns_like : (sites : List Site) (params : List Param) (args : List Arg)
    → column_names sites params args ≡ names_over (map site_of sites) (map param_of params) (map arg_of args)
columns_like sites params [] = refl
columns_like sites params (a ∷ as') =
    ap (λ xs. xs ++ column_names sites params as') (arg_like sites params a)
    ∙ ap (λ xs. arg_names (map site_of sites) (map param_of params) (arg_of a) ++ xs) (columns_like sites params as')
