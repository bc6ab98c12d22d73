-- Prefixes of lists.
use Rattle.std.specs.Prelude.{◌≡◌, List, ◌++◌}

-- the first elements of a list, or all of them
pub record IsPrefix {A : Type 0} (whole front : List A) : Type 0 where
  pub rest : List A
  pub is : whole ≡ front ++ rest

-- these are the first elements of a list that is so, or all of them
abbrev pub IsPrefixOf : {A : Type 0} → (List A → Type 0) → List A → Type 0
IsPrefixOf {A} P front = (more : List A) × P (front ++ more)
