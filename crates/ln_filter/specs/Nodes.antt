-- What a filter pushes: polynomials of nodes of the tree and of its lets.
use Rattle.std.specs.Prelude.{◌≡◌, ℕ, List, []}
use Rattle.ln_algebra.specs.Tree.{Tree}
use Rattle.ln_algebra.specs.Coefficient.{normal_coefficient}
use Rattle.ln_tree.specs.declared.shape.VarInfo.{VarInfo}
use Rattle.ln_bound.specs.declared.fitted.Width.{Width}
use Rattle.ln_code.specs.Numbers.{no_locals}
use Rattle.ln_code.specs.FilterRules.{FilterKnown, filter_rules}
use Rattle.ln_code.specs.Part.{FilterCode, lines_of}
use Rattle.ln_code.specs.Pushes.{AllPushed, Pushed, pushes}

-- what is pushed stands for one of these nodes: it has the node's polynomial. A filter is 64 bits wide throughout, whatever width
-- the node has
pub record PushesNode (is_node : Tree → Width → Type 0) (p : Pushed FilterKnown) : Type 0 where
  pub node : Tree
  pub width : Width
  pub there : is_node node width
  pub same : (m : List ℕ) → normal_coefficient p.value.tree m ≡ normal_coefficient node m

-- so does each of these
abbrev pub PushNodes : (Tree → Width → Type 0) → List (Pushed FilterKnown) → Type 0
PushNodes is_node ps = AllPushed (PushesNode is_node) ps

-- what a filter pushes, by the rules
abbrev pub pushed_by : List VarInfo → FilterCode → List (Pushed FilterKnown)
pushed_by vars f = pushes (filter_rules vars f.depth) (lines_of f.ops f.triples) (record { stack = []; locals = no_locals })
