-- The symmetry of an accepted predicate: what exchanging two of its sites does to its normal polynomial, and so to its sign.
use Rattle.std.specs.Prelude.{◌≡◌, ℕ, List, Option, Some, None, slice_get}
use Rattle.ln_tree.specs.Table.{PredOf}
use Rattle.ln_order.specs.Exchanged.{NeighboursTurn}
use Rattle.ln_stage.specs.declared.symmetry.Symmetry.{Symmetry}
use Rattle.ln_stage.specs.Symmetry.{neighbour_partners, turn_of}
use Rattle.ln_compile.specs.Accepted.{root_of}

-- Some y: each two neighbouring sites are of one type, and exchanging them keeps the polynomial, or gives its opposite, as y says. None: of all
-- neighbours neither holds, whatever the partners of their variables are. With fewer than two sites there is nothing to exchange, and both hold
abbrev pub IsSymmetryOf : PredOf → Option Symmetry → Type 0
IsSymmetryOf p (Some y) = NeighboursTurn p.sites p.vars (neighbour_partners p.vars) (turn_of y) (root_of p)
IsSymmetryOf p None = (y : Symmetry) (partner : ℕ → ℕ → ℕ) → NeighboursTurn p.sites p.vars partner (turn_of y) (root_of p) → ⊥

-- it is that of predicate number i
abbrev pub IsSymmetryAt : List PredOf → ℕ → Option Symmetry → Type 0
IsSymmetryAt ps i o = (p : PredOf) → slice_get ps i ≡ Some p → IsSymmetryOf p o
