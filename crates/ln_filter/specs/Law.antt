-- A filter is never wrong.
use Rattle.std.specs.Prelude.{◌≡◌, ◌≢◌, ℤ, pos, List, []}
use Rattle.ln_algebra.specs.Tree.{Tree}
use Rattle.ln_tree.specs.declared.shape.VarInfo.{VarInfo}
use Rattle.ln_tree.specs.Row.{AreWithin}
use Rattle.ln_bound.specs.Value.{value, values}
use Rattle.ln_bound.specs.Light.{let_values}
use Rattle.ln_code.specs.FilterRules.{Approximates}
use Rattle.ln_code.specs.Verdict.{sign_of}
use Rattle.ln_filter.specs.Truncated.{root_triple, root_number, Decides}

-- the plain value of a sign expression after its lets, on a row with these values
abbrev pub plain_value : List ℤ → List Tree → Tree → ℤ
plain_value zs lets root = value (values zs) (let_values (values zs) [] lets) root

-- the truncated number stands for the plain value
abbrev pub NumbersStand : Type 0
NumbersStand = (vars : List VarInfo) (zs : List ℤ) (lets : List Tree) (root : Tree) → AreWithin vars zs →
    Approximates (root_triple vars lets root) (root_number vars zs lets root) (plain_value zs lets root)

-- where the filter decides, the plain value isn't 0 and has the truncated number's sign
abbrev pub NeverWrong : Type 0
NeverWrong = (vars : List VarInfo) (zs : List ℤ) (lets : List Tree) (root : Tree) → AreWithin vars zs →
    Decides vars zs lets root → (sign_of (root_number vars zs lets root) ≡ sign_of (plain_value zs lets root))
    × (plain_value zs lets root ≢ pos 0)
