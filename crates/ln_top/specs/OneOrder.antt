-- C of one order: where exchanging two sites turns the sign of a predicate, or keeps it, its function is for rows whose indices rise.
use Rattle.std.specs.Prelude.{◌≡◌, ◌≤◌, ◌<◌, ℕ, ℤ, pos, negsuc, ◌*ℤ◌, List, Option, Some, None, slice_get}
use Rattle.ln_base.specs.declared.sign.Sign.{Sign}
use Rattle.ln_algebra.specs.Orders.{BySmallest}
use Rattle.ln_algebra.specs.Terms.{power_of}
use Rattle.ln_tree.specs.Row.{InRange, Row}
use Rattle.ln_tree.specs.Table.{PredOf}
use Rattle.ln_order.specs.Exchanged.{IndicesRise, NeighboursTurn, SortedRow, inversions}
use Rattle.ln_order.specs.Rows.{RowSign}
use Rattle.ln_stage.specs.declared.symmetry.Symmetry.{Symmetry}
use Rattle.ln_stage.specs.declared.symmetry.Symmetry.TheVariants as symmetry
use Rattle.ln_stage.specs.Symmetry.{neighbour_partners, turn_of}
use Rattle.ln_code.specs.OneOrder.{in_one_order}
use Rattle.ln_code.specs.Part.{Part, without_filter}
use Rattle.ln_due.specs.Due.{sign_number}
use Rattle.ln_compile.specs.Accepted.{root_of}
use Rattle.ln_csyn.specs.Tree.{Fun}
use Rattle.ln_csyn.specs.Meaning.{CCall, Counts, Signed}
use Rattle.ln_cemit.specs.declared.entry.Entry.{Entry}
use Rattle.ln_cemit.specs.declared.entry.Entry.TheVariants.{Alternating, EveryRow, Symmetric}
use Rattle.ln_cemit.specs.Names.{entry_name}
use Rattle.ln_top.specs.ExactSigns.{CallsSign, MeansSign}

-- the entry of a predicate. `la_NAME` or `ls_NAME`: it has two sites or more, all of one type, and exchanging neighbouring sites turns its
-- polynomial into the opposite, or keeps it. `ln_NAME`: it has fewer sites, or neither holds
pub data HasEntry (p : PredOf) : Entry → Type 0 where
  turns : 2 ≤ p.sites → NeighboursTurn p.sites p.vars (neighbour_partners p.vars) (negsuc 0) (root_of p) → HasEntry p Alternating
  keeps : 2 ≤ p.sites → NeighboursTurn p.sites p.vars (neighbour_partners p.vars) (pos 1) (root_of p) → HasEntry p Symmetric
  few_sites : p.sites < 2 → HasEntry p EveryRow
  no_symmetry : ((y : Symmetry) (partner : ℕ → ℕ → ℕ) → NeighboursTurn p.sites p.vars partner (turn_of y) (root_of p) → ⊥) → HasEntry p EveryRow

-- the entry of a predicate of two sites or more with this symmetry, or with none
abbrev pub entry_for : Option Symmetry → Entry
entry_for (Some symmetry.Alternating) = Alternating
entry_for (Some symmetry.Symmetric) = Symmetric
entry_for None = EveryRow

-- exchanges of neighbouring sites lead from the row to one whose indices rise, one exchange for each inversion of its indices; the call on that
-- row means a sign, which multiplied by s for each inversion is the perturbed sign of the predicate on the first row
pub record SortsToSign (file : List Fun) (name : List ℕ) (p : PredOf) (s : ℤ) (row : Row) : Type 0 where
  pub to : SortedRow p.sites p.vars (neighbour_partners p.vars) s row
  pub sign : Sign
  pub counts : Counts
  pub called : CCall file name to.sorted.index to.sorted.values ≡ Some (Signed (sign_number sign) counts)
  pub perturbed : RowSign BySmallest p.vars (root_of p) row (power_of s (inversions row.index) *ℤ sign_number sign)

-- on each row in the declared ranges whose indices rise the call of the function means the perturbed sign; so each row in these ranges has its
-- sign by the call on the row with its sites sorted
pub record RisingSigns (file : List Fun) (name : List ℕ) (p : PredOf) (s : ℤ) : Type 0 where
  pub rising : (row : Row) → InRange p.sites p.vars row → IndicesRise row → MeansSign file name p row
  pub sorted : (row : Row) → InRange p.sites p.vars row → SortsToSign file name p s row

-- what the calls of a predicate's function mean: `la_NAME` and `ls_NAME` on rows whose indices rise, `ln_NAME` on every row
abbrev pub EntrySigns : List Fun → PredOf → Entry → Type 0
EntrySigns file p Alternating = RisingSigns file (entry_name Alternating p.name) p (negsuc 0)
EntrySigns file p Symmetric = RisingSigns file (entry_name Symmetric p.name) p (pos 1)
EntrySigns file p EveryRow = (row : Row) → InRange p.sites p.vars row → CallsSign file p row

-- ---- how it is written
-- what is written of a program: the program without its filter, or the one of one order of the sites
abbrev pub reduced : Entry → Part → Part
reduced EveryRow c = without_filter c
reduced Alternating c = in_one_order c
reduced Symmetric c = in_one_order c

-- the entry of predicate number i
abbrev pub HasEntryAt : List PredOf → ℕ → Entry → Type 0
HasEntryAt ps i n = (p : PredOf) → slice_get ps i ≡ Some p → HasEntry p n
