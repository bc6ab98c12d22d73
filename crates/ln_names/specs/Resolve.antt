-- What the names of an expression stand for, as places in lists; the rules see to it that each is there.
use Rattle.std.specs.Prelude.{ℕ, ◌&&◌, Bool, true, List, Option, Some, None}
use Rattle.std.specs.List.{position_from}
use Rattle.ln_syntax.specs.Raw.{Span, Item, items, is_site, is_param, is_pred, same}
use Rattle.ln_names.specs.Rules.{RawCoord, RawArg, RawLet, Scope, scope, is_site_arg, is_param_arg}
use Rattle.ln_names.specs.declared.resolve.Visible.{Visible}
use Rattle.ln_names.specs.declared.resolve.ArgKind.{ArgKind}
use Rattle.ln_names.specs.declared.resolve.ArgKind.TheVariants as of
use Rattle.ln_names.specs.declared.tokens.ItemKind.{ItemKind}
use Rattle.ln_names.specs.declared.tokens.ItemKind.TheVariants.{Site, Param, Pred}

-- what an expression can speak of
abbrev pub visible : Visible → Scope
visible v = scope (items v.before.now) v.args.now v.lets.now

-- the number of the let of this name
abbrev pub let_place : List ℕ → List RawLet → Span → Option ℕ
let_place bytes lets at = position_from (λ l. same bytes l.name at) 0 lets

-- is the item of this kind, if a kind is asked for?
abbrev pub is_of_kind : Option ItemKind → Item → Bool
is_of_kind None i = true
is_of_kind (Some Site) i = is_site i
is_of_kind (Some Param) i = is_param i
is_of_kind (Some Pred) i = is_pred i

-- is the argument of this kind, if a kind is asked for?
abbrev pub is_arg : Option ArgKind → RawArg → Bool
is_arg None a = true
is_arg (Some of.Site) a = is_site_arg a
is_arg (Some of.Param) a = is_param_arg a

-- the place of the argument of this name and kind, among all arguments
abbrev pub arg_place : List ℕ → Option ArgKind → List RawArg → Span → Option ℕ
arg_place bytes kind args at = position_from (λ a. is_arg kind a && same bytes a.name at) 0 args

-- the place of the coordinate of this name
abbrev pub coord_place : List ℕ → List RawCoord → Span → Option ℕ
coord_place bytes coords at = position_from (λ c. same bytes c.name at) 0 coords
