-- Defines what commands ask of the arguments of their predicates.
use Rattle.std.specs.Prelude.{Bool, true, false, ◌&&◌, nat_eq, bytes_eq, List, [], ◌∷◌}
use Rattle.std.specs.List.{list_all}
use Rattle.ln_tree.specs.Table.{ArgOf, SiteArg, ParamArg, PredOf}

-- the same name and type, or the same param
abbrev pub same_arg : ArgOf → ArgOf → Bool
same_arg (SiteArg n t) (SiteArg m u) = bytes_eq n m && nat_eq t u
same_arg (SiteArg n t) (ParamArg q) = false
same_arg (ParamArg p) (SiteArg m u) = false
same_arg (ParamArg p) (ParamArg q) = nat_eq p q

-- the same arguments, one after the other
abbrev pub same_args : List ArgOf → List ArgOf → Bool
same_args [] [] = true
same_args [] (b ∷ bs) = false
same_args (a ∷ as') [] = false
same_args (a ∷ as') (b ∷ bs) = same_arg a b && same_args as' bs

-- a predicate has the arguments of the first of these
abbrev pub like_first : List PredOf → PredOf → Bool
like_first [] q = true
like_first (p ∷ ps) q = same_args p.args q.args

-- each has
abbrev pub are_alike : List PredOf → Bool
are_alike ps = list_all (like_first ps) ps
