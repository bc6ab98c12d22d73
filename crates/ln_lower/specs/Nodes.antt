-- What a block of a tree pushes: polynomials of nodes of the tree and of its lets.
use Rattle.std.specs.Prelude.{◌≡◌, ℕ, ◌<◌, List, [], length, pos, map, slice_index_or, Option, Some, None}
use Rattle.ln_algebra.specs.Tree.{Tree, Num, inlined_after}
use Rattle.ln_algebra.specs.Coefficient.{normal_coefficient}
use Rattle.ln_tree.specs.declared.shape.VarInfo.{VarInfo}
use Rattle.ln_bound.specs.Typed.{Typed, untyped}
use Rattle.ln_code.specs.Engine.{State, run}
pub use Rattle.ln_code.specs.NodePushes.{HasWidth, PushNodes, PushesNode, pushed_by}
use Rattle.ln_code.specs.Numbers.{no_locals}
use Rattle.ln_code.specs.Rules.{Known, rules}
use Rattle.ln_code.specs.Part.{Code, lines_of}

-- there is a value, and it has the polynomial of e
abbrev pub HasPolynomial : Option Known → Tree → Type 0
HasPolynomial None e = ⊥
HasPolynomial (Some k) e = (m : List ℕ) → normal_coefficient k.tree m ≡ normal_coefficient e m

-- local j has it
abbrev pub LocalHas : Option (State Known (ℕ → Option Known)) → ℕ → Tree → Type 0
LocalHas None j e = ⊥
LocalHas (Some s) j e = HasPolynomial (s.locals j) e

-- after all operations each let is in the local of its number
abbrev pub KeepsLets : List VarInfo → Code → List Typed → Type 0
KeepsLets vars c lets = (j : ℕ) → j < length lets →
    LocalHas (run (rules vars c.depth) (lines_of c.ops c.pairs) (record { stack = []; locals = no_locals })) j
    (slice_index_or (inlined_after [] (map untyped lets)) j (Num (pos 0)))
