-- Where a function is among those of a file.
use Rattle.std.specs.Prelude.{◌≡◌, ℕ, Bool, true, false, List, Some, map, take, slice_get}
use Rattle.std.specs.List.{list_any}
use Rattle.ln_csyn.specs.declared.tree.CFun.{CFun}
use Rattle.ln_csyn.specs.Meaning.{is_wanted}
use Rattle.ln_csyn.specs.Tree.{Fun}
use Rattle.ln_csyn.specs.View.{fun_tree}

-- the function has two parameters, or one, and the name
abbrev pub test : Bool → List ℕ → Fun → Bool
test indexed name f = is_wanted f indexed name

-- the first function that passes the test is at this place
pub record IsFirst (test : Fun → Bool) (fs : List CFun) (i : ℕ) : Type 0 where
  pub passes : (f : CFun) → slice_get fs i ≡ Some f → test (fun_tree f) ≡ true
  pub first : list_any test (map fun_tree (take i fs)) ≡ false
