-- Defines the invariant that a predicate of a table holds.
use Rattle.std.specs.Prelude.{ℕ, ◌+◌, ◌==◌, ◌&&◌, nat_le, Bool, List, length, map}
use Rattle.ln_tree.specs.declared.items.Arg.{Arg}
use Rattle.ln_tree.specs.declared.shape.VarInfo.{VarInfo}
use Rattle.ln_tree.specs.declared.expr.Expr.{Expr}
use Rattle.ln_tree.specs.Arguments.{are_of}
use Rattle.ln_tree.specs.Formula.{formula, tree_of, node_count, node_counts}
use Rattle.ln_tree.specs.Fits.{is_fit, lets_fit}

-- its variables are of its arguments; its lets and its sign expression are fit; it has at most 64 lets, each with a name, and at
-- most 2,048 nodes
abbrev pub is_pred : List Arg → List VarInfo → List Expr → ℕ → Expr → Bool
is_pred args vars lets names root =
    are_of args vars && nat_le (length lets) 64 && (names == length lets)
    && lets_fit (length vars) 0 (map (tree_of vars) lets) && is_fit (length vars) (length lets) (tree_of vars root)
    && nat_le (node_counts (map formula lets) + node_count (formula root)) 2048
