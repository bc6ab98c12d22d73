-- Defines what `edges` asks of the arguments of its predicate.
use Rattle.std.specs.Prelude.{ℕ, Bool, false, ◌&&◌, nat_eq, List, [], ◌∷◌, Option, Some, None}
use Rattle.ln_tree.specs.Table.{ArgOf, SiteArg, ParamArg, PredOf}

-- the number of a site's type
abbrev pub type_of : ArgOf → Option ℕ
type_of (SiteArg n t) = Some t
type_of (ParamArg p) = None

-- all three have a type, and it is the same one
abbrev pub one_type : Option ℕ → Option ℕ → Option ℕ → Bool
one_type (Some a) (Some b) (Some c) = nat_eq a b && nat_eq b c
one_type a b c = false

-- exactly three sites of one type
abbrev pub is_three : List ArgOf → Bool
is_three (a ∷ b ∷ c ∷ []) = one_type (type_of a) (type_of b) (type_of c)
is_three args = false

-- exactly one predicate, of exactly three sites of one type
abbrev pub is_one_of_three : List PredOf → Bool
is_one_of_three (p ∷ []) = is_three p.args
is_one_of_three preds = false
