-- The variables of a predicate: how they are numbered, and in which order they come.
use Rattle.std.specs.Prelude.{ℕ, suc, ◌+◌, ◌==◌, ◌&&◌, not, nat_le, nat_lt, int_lt, Bool, true}
use Rattle.std.specs.Prelude.{false, pos, neg_ℤ, ◌^◌, List, [], ◌∷◌, length, count_by, position}
use Rattle.std.specs.Prelude.{unwrap_or, Option, Some, None, is_some, is_none, ◌||◌, if◌then◌else◌}
use Rattle.std.specs.List.{list_all}
use Rattle.ln_tree.specs.declared.shape.VarInfo.{VarInfo}

-- is it the variable of this argument and this coordinate?
abbrev pub is_var : ℕ → ℕ → VarInfo → Bool
is_var arg coord i = (i.arg == arg) && (i.coord == coord)

-- the number of a variable, from 0; where there is no such variable, how many there are
abbrev pub number_or_end : List VarInfo → ℕ → ℕ → ℕ
number_or_end vars arg coord = unwrap_or (position (is_var arg coord) vars) (length vars)

-- the same site, or no site both
abbrev pub same_site : Option ℕ → Option ℕ → Bool
same_site None None = true
same_site None (Some t) = false
same_site (Some s) None = false
same_site (Some s) (Some t) = s == t

-- is it the first coordinate of a site?
abbrev pub starts_site : VarInfo → Bool
starts_site i = is_some i.site && (i.coord == 0)

-- is it the first variable of an argument?
abbrev pub starts_arg : VarInfo → Bool
starts_arg i = i.coord == 0

-- is it a param?
abbrev pub is_param : VarInfo → Bool
is_param i = is_none i.site

-- its range is in order and from -(2^63 - 1) on
abbrev pub has_range : VarInfo → Bool
has_range i = not (int_lt i.hi i.lo) && int_lt (neg_ℤ (pos (2 ^ 63))) i.lo

-- does i begin argument a, after s sites?
abbrev pub begins : ℕ → ℕ → VarInfo → Bool
begins a s i = (i.arg == a) && (is_none i.site || same_site i.site (Some s))

-- is i the next coordinate of the site of b?
abbrev pub goes_on : VarInfo → VarInfo → Bool
goes_on b i = (i.arg == b.arg) && is_some b.site && same_site i.site b.site && (i.coord == b.coord + 1) && nat_lt i.coord 32

-- how many sites there are once i begins an argument, where s come before it
abbrev pub sites_behind : ℕ → VarInfo → ℕ
sites_behind s i = if is_some i.site then suc s else s

-- the variables are in order after a arguments, s sites and the variable b
abbrev pub in_order : ℕ → ℕ → VarInfo → List VarInfo → Bool
in_order a s b [] = true
in_order a s b (i ∷ is) = if i.coord == 0 then begins a s i && in_order (suc a) (sites_behind s i) i is
    else goes_on b i && in_order a s i is

-- a param, which no coordinate goes on with
abbrev pub no_var : VarInfo
no_var = record { arg = 0; site = None; coord = 0; lo = pos 0; hi = pos 0 }

-- the variables are in order of the arguments, for a site its coordinates in declared order; at most 5 sites of at most 32
-- coordinates and at most 8 params; ranges in order
abbrev pub is_laid_out : ℕ → List VarInfo → Bool
is_laid_out sites vars =
    in_order 0 0 no_var vars && list_all has_range vars && (count_by starts_site vars == sites) && nat_le sites 5
    && nat_le (count_by is_param vars) 8 && nat_le (length vars) 168
