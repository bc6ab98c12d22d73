-- Names of columns among the fields of a record.
use Rattle.std.specs.Prelude.{◌≡◌, ◌≢◌, ℕ, ◌≤◌, length, drop, List, ◌++◌, Option, Some, None}
pub use Rattle.ln_tree.specs.Columns.{coord_column, site_columns, param_columns, arg_columns, column_names}

-- these names are among the fields from place `at` on, and `to` is the place after them
abbrev pub StandAt : List (List ℕ) → List (List ℕ) → ℕ → ℕ → Type 0
StandAt names fields at to = (drop at fields ≡ names ++ drop to fields) × (at ≤ length fields → to ≤ length fields)

-- the place after these names, where they are from place `at` on
abbrev pub Passes : List (List ℕ) → List (List ℕ) → ℕ → Option ℕ → Type 0
Passes names fields at None = (rest : List (List ℕ)) → drop at fields ≢ names ++ rest
Passes names fields at (Some to) = StandAt names fields at to
