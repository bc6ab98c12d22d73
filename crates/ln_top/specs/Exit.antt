-- Defines what is done around the call of `lnc`.
use Rattle.std.specs.Prelude.{ℕ, Bool, false, List, [], ◌∷◌, bytes_eq, codes}

-- is the first of the words `gen`?
abbrev pub is_gen : List (List ℕ) → Bool
is_gen [] = false
is_gen (word ∷ words) = bytes_eq word (codes "gen")
