-- The arguments of a predicate.
use Rattle.std.specs.Prelude.{ℕ, zero, suc, ◌==◌, ◌&&◌, nat_lt, Bool, true, List, [], ◌∷◌, length, count_by, Option, Some, None, slice_get}
use Rattle.std.specs.List.{list_all}
use Rattle.ln_tree.specs.declared.items.Arg.{Arg}
use Rattle.ln_tree.specs.declared.items.Arg.TheVariants.{Site as SiteArg, Param as ParamArg}
use Rattle.ln_tree.specs.declared.items.Site.{Site}
use Rattle.ln_tree.specs.declared.items.Param.{Param}
use Rattle.ln_tree.specs.declared.shape.VarInfo.{VarInfo}
use Rattle.ln_tree.specs.Variables.{same_site, starts_arg}

-- the place of argument k among the sites, after s sites; of a param none
abbrev pub site_behind : ℕ → List Arg → ℕ → Option ℕ
site_behind s [] k = None
site_behind s (SiteArg n t ∷ args) zero = Some s
site_behind s (SiteArg n t ∷ args) (suc k) = site_behind (suc s) args k
site_behind s (ParamArg p ∷ args) zero = None
site_behind s (ParamArg p ∷ args) (suc k) = site_behind s args k

-- is it a variable of these arguments?
abbrev pub is_of : List Arg → VarInfo → Bool
is_of args i = same_site i.site (site_behind 0 args i.arg)

-- the variables are those of the arguments, and each argument has some
abbrev pub are_of : List Arg → List VarInfo → Bool
are_of args vars = list_all (is_of args) vars && (count_by starts_arg vars == length args)

-- how many coordinates a site type has; 0 where there is none
abbrev pub coords_of : Option Site → ℕ
coords_of None = 0
coords_of (Some s) = length s.coords

-- argument k is of one of the site types and has its coordinates, or is one of the params
abbrev pub arg_fits : List Site → List Param → List VarInfo → ℕ → Arg → Bool
arg_fits sites params vars k (SiteArg n t) = nat_lt t (length sites) && (count_by (λ i. i.arg == k) vars == coords_of (slice_get sites t))
arg_fits sites params vars k (ParamArg p) = nat_lt p (length params)

-- the arguments from number k on are of the site types and params
abbrev pub args_fit : List Site → List Param → List VarInfo → ℕ → List Arg → Bool
args_fit sites params vars k [] = true
args_fit sites params vars k (a ∷ args) = arg_fits sites params vars k a && args_fit sites params vars (suc k) args
