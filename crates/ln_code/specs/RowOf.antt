-- Rows of the program as rows of the subject.
use Rattle.std.specs.Prelude.{◌≡◌, ℕ, ◌≤◌, pos, List, length, take, slice_index_or}
use Rattle.ln_tree.specs.declared.shape.VarInfo.{VarInfo}
use Rattle.ln_tree.specs.Row as tree
use Rattle.ln_code.specs.declared.row.Row.{Row}

-- the row of a predicate with this many sites and these variables: the first places of both arrays
abbrev pub row_of : ℕ → List VarInfo → Row → tree.Row
row_of sites vars r = record { index = take sites r.index; values = take (length vars) r.values }

-- the places after this many sites and this many variables are 0
pub record IsZeroPast (sites vars : ℕ) (r : Row) : Type 0 where
  pub index : (k : ℕ) → sites ≤ k → slice_index_or r.index k (pos 0) ≡ pos 0
  pub values : (k : ℕ) → vars ≤ k → slice_index_or r.values k (pos 0) ≡ pos 0
