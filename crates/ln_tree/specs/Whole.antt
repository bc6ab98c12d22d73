-- What the table of a text has beside what its parts keep: names that differ, variables that are those of the arguments, and a
-- canonical text within the limits.
use Rattle.std.specs.Prelude.{ℕ, suc, ◌+◌, ◌*◌, ◌^◌, ◌==◌, ◌&&◌, not, max, nat_lt, nat_le, int_lt}
use Rattle.std.specs.Prelude.{Bool, true, false, if◌then◌else◌, ℤ, pos, neg_ℤ, List, [], ◌∷◌, ◌++◌}
use Rattle.std.specs.Prelude.{length, map, count_by, Option, Some, None, slice_get, bytes_eq}
use Rattle.std.specs.List.{list_any, list_all}
use Rattle.std.specs.Ordering.{int_eq}
use Rattle.ln_base.specs.Limits.{most_tokens}
use Rattle.ln_tree.specs.declared.shape.VarInfo.{VarInfo}
use Rattle.ln_tree.specs.Variables.{same_site}
use Rattle.ln_tree.specs.Formula.{Formula, FNum, FInput, FName, FNeg, FAdd, FSub, FMul, FPow}
use Rattle.ln_tree.specs.Table.{CoordOf, SiteOf, ArgOf, SiteArg, ParamArg, PredOf, TableOf}

-- none of these names is t
abbrev pub is_new : List ℕ → List (List ℕ) → Bool
is_new t us = not (list_any (λ u. bytes_eq t u) us)

-- the names differ
abbrev pub differ : List (List ℕ) → Bool
differ [] = true
differ (u ∷ us) = is_new u us && differ us

-- a range in order, within 2^63 - 1
abbrev pub is_range : CoordOf → Bool
is_range c = not (int_lt c.hi c.lo) && int_lt (neg_ℤ (pos (2 ^ 63))) c.lo && int_lt c.hi (pos (2 ^ 63))

-- a site type has 1 to 32 coordinates, each with its range and a name of its own
abbrev pub site_whole : SiteOf → Bool
site_whole s = nat_lt 0 (length s.coords) && nat_le (length s.coords) 32 && list_all is_range s.coords
    && differ (map (λ c. c.name) s.coords)

-- one of this many site types, or of this many params
abbrev pub is_one_of : ℕ → ℕ → ArgOf → Bool
is_one_of sites params (SiteArg n t) = nat_lt t sites
is_one_of sites params (ParamArg p) = nat_lt p params

-- is the argument a site?
abbrev pub is_site_said : ArgOf → Bool
is_site_said (SiteArg n t) = true
is_site_said (ParamArg p) = false

-- is the argument a param?
abbrev pub is_param_said : ArgOf → Bool
is_param_said (SiteArg n t) = false
is_param_said (ParamArg p) = true

-- the name of a coordinate or param that there is
abbrev pub range_name : Option CoordOf → List ℕ
range_name None = []
range_name (Some c) = c.name

-- the name of an argument: a site's own, or its param's
abbrev pub arg_name : List CoordOf → ArgOf → List ℕ
arg_name params (SiteArg n t) = n
arg_name params (ParamArg p) = range_name (slice_get params p)

-- the variables of the coordinates of site number s, which is argument k, from coordinate c on
abbrev pub site_vars : ℕ → ℕ → ℕ → List CoordOf → List VarInfo
site_vars k s c [] = []
site_vars k s c (x ∷ xs) = record { arg = k; site = Some s; coord = c; lo = x.lo; hi = x.hi } ∷ site_vars k s (suc c) xs

-- the coordinates of a site type; none where there is no such type
abbrev pub coords_or : Option SiteOf → List CoordOf
coords_or None = []
coords_or (Some s) = s.coords

-- the variable of a param that is argument k; none where there is no such param
abbrev pub param_vars : ℕ → Option CoordOf → List VarInfo
param_vars k None = []
param_vars k (Some p) = record { arg = k; site = None; coord = 0; lo = p.lo; hi = p.hi } ∷ []

-- the variables of the arguments from number k on, after s sites: in order of the arguments, for a site its coordinates in declared order
abbrev pub vars_behind : List SiteOf → List CoordOf → ℕ → ℕ → List ArgOf → List VarInfo
vars_behind sites params k s [] = []
vars_behind sites params k s (SiteArg n t ∷ args) = site_vars k s 0 (coords_or (slice_get sites t))
    ++ vars_behind sites params (suc k) (suc s) args
vars_behind sites params k s (ParamArg p ∷ args) = param_vars k (slice_get params p) ++ vars_behind sites params (suc k) s args

-- do the two variables agree in argument, site, coordinate and range?
abbrev pub same_var : VarInfo → VarInfo → Bool
same_var i j = (i.arg == j.arg) && same_site i.site j.site && (i.coord == j.coord) && int_eq i.lo j.lo && int_eq i.hi j.hi

-- the same variables in the same order
abbrev pub same_vars : List VarInfo → List VarInfo → Bool
same_vars [] [] = true
same_vars [] (j ∷ js) = false
same_vars (i ∷ is) [] = false
same_vars (i ∷ is) (j ∷ js) = same_var i j && same_vars is js

-- how tightly an expression holds together: a sum or difference least, then a product, then a negation or a power, then a number or a name
abbrev pub tightness : Formula → ℕ
tightness (FNum at c) = 3
tightness (FInput at a c) = 3
tightness (FName at j) = 3
tightness (FNeg at e) = 2
tightness (FAdd at e f) = 0
tightness (FSub at e f) = 0
tightness (FMul at e f) = 1
tightness (FPow at e n) = 2

-- the pairs of parentheses round an expression of tightness x where tightness r is wanted: one or none
abbrev pub pairs : ℕ → ℕ → ℕ
pairs r x = if nat_le r x then 0 else 1

-- how deep parentheses are nested in the canonical text of an expression where tightness r is wanted
abbrev pub nesting : ℕ → Formula → ℕ
nesting r (FNum at c) = 0
nesting r (FInput at a c) = 0
nesting r (FName at j) = 0
nesting r (FNeg at e) = pairs r 2 + nesting 2 e
nesting r (FAdd at e f) = pairs r 0 + max (nesting 0 e) (nesting 1 f)
nesting r (FSub at e f) = pairs r 0 + max (nesting 0 e) (nesting 1 f)
nesting r (FMul at e f) = pairs r 1 + max (nesting 1 e) (nesting 2 f)
nesting r (FPow at e n) = pairs r 2 + nesting 3 e

-- the tokens of an input: of a site NAME . NAME, of a param its NAME
abbrev pub input_tokens : Option ArgOf → ℕ
input_tokens None = 1
input_tokens (Some (SiteArg n t)) = 3
input_tokens (Some (ParamArg p)) = 1

-- how many tokens the canonical text of an expression has where tightness r is wanted
abbrev pub tokens_of : List ArgOf → ℕ → Formula → ℕ
tokens_of args r (FNum at c) = 1
tokens_of args r (FInput at a c) = input_tokens (slice_get args a)
tokens_of args r (FName at j) = 1
tokens_of args r (FNeg at e) = 2 * pairs r 2 + (1 + tokens_of args 2 e)
tokens_of args r (FAdd at e f) = 2 * pairs r 0 + (1 + (tokens_of args 0 e + tokens_of args 1 f))
tokens_of args r (FSub at e f) = 2 * pairs r 0 + (1 + (tokens_of args 0 e + tokens_of args 1 f))
tokens_of args r (FMul at e f) = 2 * pairs r 1 + (1 + (tokens_of args 1 e + tokens_of args 2 f))
tokens_of args r (FPow at e n) = 2 * pairs r 2 + (2 + tokens_of args 3 e)

-- one for each element
abbrev pub total : {A : Type 0} → (A → ℕ) → List A → ℕ
total f [] = 0
total f (x ∷ xs) = f x + total f xs

-- the tokens of an end of a range: a minus sign, where it is below 0, and its NUMBER
abbrev pub end_tokens : ℤ → ℕ
end_tokens z = if int_lt z (pos 0) then 2 else 1

-- NAME : LOW .. HIGH ;
abbrev pub range_tokens : CoordOf → ℕ
range_tokens c = 4 + (end_tokens c.lo + end_tokens c.hi)

-- site NAME { COORD+ }
abbrev pub site_tokens : SiteOf → ℕ
site_tokens s = 4 + total range_tokens s.coords

-- param NAME : LOW .. HIGH ;
abbrev pub param_tokens : CoordOf → ℕ
param_tokens c = 1 + range_tokens c

-- predicate NAME ( ARGS ) { LETS sign EXPR ; }
abbrev pub pred_tokens : PredOf → ℕ
pred_tokens p = 7 + (4 * length p.args + (total (λ e. 4 + tokens_of p.args 0 e) p.lets + tokens_of p.args 0 p.root))

-- the tokens of the canonical text
abbrev pub text_tokens : TableOf → ℕ
text_tokens t = total site_tokens t.sites + (total param_tokens t.params + total pred_tokens t.preds)

-- The name of a predicate's shape is its own. It has at least one argument and at most 5 sites and 8 params, which are of the
-- table; its variables are theirs. Its arguments and lets have names of their own. No parenthesis of its canonical text is nested
-- more than 64 deep.
abbrev pub pred_whole : List SiteOf → List CoordOf → PredOf → Bool
pred_whole sites params p =
    bytes_eq p.shape_name p.name && nat_lt 0 (length p.args) && list_all (is_one_of (length sites) (length params)) p.args
    && nat_le (count_by is_site_said p.args) 5 && nat_le (count_by is_param_said p.args) 8 && (p.sites == count_by is_site_said p.args)
    && same_vars p.vars (vars_behind sites params 0 0 p.args) && differ (map (arg_name params) p.args ++ p.let_names)
    && list_all (λ e. nat_le (nesting 0 e) 64) p.lets && nat_le (nesting 0 p.root) 64

-- the names of the site types, params and predicates
abbrev pub item_names : TableOf → List (List ℕ)
item_names t = map (λ s. s.name) t.sites ++ (map (λ c. c.name) t.params ++ map (λ p. p.name) t.preds)

-- The site types, params and predicates are whole, and have names of their own. The canonical text has at most 65,536 tokens.
abbrev pub is_whole : TableOf → Bool
is_whole t =
    list_all site_whole t.sites && list_all is_range t.params && list_all (pred_whole t.sites t.params) t.preds && differ (item_names t)
    && nat_le (text_tokens t) most_tokens
