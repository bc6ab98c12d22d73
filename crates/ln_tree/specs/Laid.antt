-- The variables of a predicate read aloud: there are arguments, and the variables are their coordinates in turn.
use Rattle.std.specs.Prelude.{◌≡◌, ◌↔◌, ℕ, suc, ◌+◌, ◌<◌, ◌≤◌, ℤ, Bool, true, false, List}
use Rattle.std.specs.Prelude.{[], ◌∷◌, ◌++◌, length, count_by, Option, Some, None}
use Rattle.std.specs.List.{list_all}
use Rattle.ln_tree.specs.declared.shape.VarInfo.{VarInfo}
use Rattle.ln_tree.specs.Variables.{has_range, is_laid_out}

-- a range as it is declared
pub record Ends : Type 0 where
  pub low : ℤ
  pub high : ℤ

-- an argument: a site, with the ranges of its coordinates in declared order, of which there is a first; or a param, with its range
pub data Argument : Type 0 where
  ASite : Ends → List Ends → Argument
  AParam : Ends → Argument

-- the first variable of argument a
abbrev pub first_of : ℕ → Option ℕ → Ends → VarInfo
first_of a site r = record { arg = a; site = site; coord = 0; lo = r.low; hi = r.high }

-- the coordinate after b
abbrev pub next_of : VarInfo → Ends → VarInfo
next_of b r = record { arg = b.arg; site = b.site; coord = b.coord + 1; lo = r.low; hi = r.high }

-- the coordinates after b, one for each range
abbrev pub coordinates_behind : VarInfo → List Ends → List VarInfo
coordinates_behind b [] = []
coordinates_behind b (r ∷ rs) = next_of b r ∷ coordinates_behind (next_of b r) rs

-- the variables of the arguments, where a arguments and s sites come before them: arguments and sites count upwards, and so do
-- the coordinates of a site
abbrev pub variables_from : ℕ → ℕ → List Argument → List VarInfo
variables_from a s [] = []
variables_from a s (ASite r rs ∷ args) =
    first_of a (Some s) r ∷ (coordinates_behind (first_of a (Some s) r) rs ++ variables_from (suc a) (suc s) args)
variables_from a s (AParam r ∷ args) = first_of a None r ∷ variables_from (suc a) s args

-- is the argument a site?
abbrev pub is_a_site : Argument → Bool
is_a_site (ASite r rs) = true
is_a_site (AParam r) = false

-- is the argument a param?
abbrev pub is_a_param : Argument → Bool
is_a_param (ASite r rs) = false
is_a_param (AParam r) = true

-- a site has at most 32 coordinates
abbrev pub IsNarrow : Argument → Type 0
IsNarrow (ASite r rs) = length rs < 32
IsNarrow (AParam r) = Unit {0}

-- each site among the arguments has at most 32 coordinates
abbrev pub AreNarrow : List Argument → Type 0
AreNarrow [] = Unit {0}
AreNarrow (x ∷ args) = IsNarrow x × AreNarrow args

-- the variables are those of arguments: this many sites, at most 5, each of at most 32 coordinates, and at most 8 params; each range in order
pub record AreOfArguments (sites : ℕ) (vars : List VarInfo) : Type 0 where
  pub args : List Argument
  pub are : vars ≡ variables_from 0 0 args
  pub narrow : AreNarrow args
  pub sites_are : count_by is_a_site args ≡ sites
  pub few_sites : sites ≤ 5
  pub few_params : count_by is_a_param args ≤ 8
  pub ranges : list_all has_range vars ≡ true

-- the test of the types is just that
abbrev pub VariablesAreOfArguments : Type 0
VariablesAreOfArguments = (sites : ℕ) (vars : List VarInfo) → (is_laid_out sites vars ≡ true) ↔ AreOfArguments sites vars
