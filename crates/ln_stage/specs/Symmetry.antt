-- Defines what is tested of a polynomial to see whether exchanging neighbouring sites keeps it or turns it into its opposite.
use Rattle.std.specs.Prelude.{◌≡◌, ℕ, suc, ◌+◌, ◌-◌, ◌≤◌, ℤ, pos, negsuc, ◌*ℤ◌, true, List, length, Contains}
use Rattle.ln_algebra.specs.Exchange.{Turns, exchanged}
use Rattle.ln_algebra.specs.Tree.{Tree}
use Rattle.ln_tree.specs.declared.shape.VarInfo.{VarInfo}
use Rattle.ln_tree.specs.Exps.{Pairs, vector}
use Rattle.ln_order.specs.Exchanged.{AreAlike, NeighboursTurn, is_of_site, partner_at, range_at, shift_of}
use Rattle.ln_poly.specs.Expansion.{IsNormal}
use Rattle.ln_poly.specs.Sparse.{Sparse}
use Rattle.ln_stage.specs.declared.symmetry.Symmetry.{Symmetry}
use Rattle.ln_stage.specs.declared.symmetry.Symmetry.TheVariants.{Alternating, Symmetric}

-- by what an exchange multiplies the polynomial: 1 or -1
abbrev pub turn_of : Symmetry → ℤ
turn_of Symmetric = pos 1
turn_of Alternating = negsuc 0

-- d variables after v, where it is of site j, is one of site j + 1 with the same range
abbrev pub IsAbove : List VarInfo → ℕ → ℕ → ℕ → Type 0
IsAbove vars j d v = is_of_site vars j v ≡ true → (is_of_site vars (suc j) (v + d) ≡ true) × (range_at vars (v + d) ≡ range_at vars v)

-- d variables before v, where it is of site j + 1, is one of site j
abbrev pub IsBelow : List VarInfo → ℕ → ℕ → ℕ → Type 0
IsBelow vars j d v = is_of_site vars (suc j) v ≡ true → (d ≤ v) × (is_of_site vars j (v - d) ≡ true)

-- u has the exchanged exponents of t
abbrev pub ArePartners : List VarInfo → ℕ → ℕ → Pairs → Pairs → Type 0
ArePartners vars j d t u = vector (length vars) u ≡ exchanged (partner_at vars j d) (vector (length vars) t)

-- u is the partner of t: it has the exchanged exponents, and the factor of t or its opposite
pub record IsPartner (vars : List VarInfo) (j d : ℕ) (y : Symmetry) (t u : Pairs × ℤ) : Type 0 where
  pub exponents : ArePartners vars j d t.0 u.0
  pub factor : u.1 ≡ turn_of y *ℤ t.1

-- a term of the polynomial is the partner of t
pub record HasPartner (vars : List VarInfo) (j d : ℕ) (y : Symmetry) (f : Sparse) (t : Pairs × ℤ) : Type 0 where
  pub other : Pairs × ℤ
  pub member : Contains f other
  pub is : IsPartner vars j d y t other

-- the partners of the variables of neighbouring sites, by their first variables
abbrev pub neighbour_partners : List VarInfo → ℕ → ℕ → ℕ
neighbour_partners vars j = partner_at vars j (shift_of vars j)

-- exchanging sites j and j + 1 keeps each expression whose normal polynomial f is, or turns it into its opposite
abbrev pub PairTurns : List VarInfo → ℕ → Symmetry → Sparse → Type 0
PairTurns vars j y f = (e : Tree) → IsNormal (length vars) e f
    → AreAlike vars j (suc j) (neighbour_partners vars j) × Turns (length vars) (neighbour_partners vars j) (turn_of y) e

-- it does so to none, whatever the partners are
abbrev pub PairNeverTurns : List VarInfo → ℕ → Symmetry → Sparse → Type 0
PairNeverTurns vars j y f =
    (e : Tree) → IsNormal (length vars) e f → (partner : ℕ → ℕ) → AreAlike vars j (suc j) partner → Turns (length vars) partner (turn_of y) e → ⊥

-- the same of all neighbours
abbrev pub HasSymmetry : ℕ → List VarInfo → Symmetry → Sparse → Type 0
HasSymmetry sites vars y f =
    (e : Tree) → IsNormal (length vars) e f → NeighboursTurn sites vars (neighbour_partners vars) (turn_of y) e

-- The exchanges of neighbours don't all turn the polynomial by this sign, whatever the partners are.
abbrev pub LacksSymmetry : ℕ → List VarInfo → Symmetry → Sparse → Type 0
LacksSymmetry sites vars y f =
    (e : Tree) → IsNormal (length vars) e f → (partner : ℕ → ℕ → ℕ) → NeighboursTurn sites vars partner (turn_of y) e → ⊥
