-- Defines rows whose sites are exchanged, and expressions that keep or turn their sign where neighbouring sites are exchanged.
use Rattle.std.specs.Prelude.{◌≡◌, ◌≢◌, ℕ, zero, suc, ◌+◌, ◌-◌, ◌<◌, ◌≤◌, eqb, int_lt, Bool, true, ℤ, pos, ◌*ℤ◌, ◌<ℤ◌, AllPairs, List, [], ◌∷◌, length}
use Rattle.std.specs.Prelude.{count_by, Some, None, option_map, if◌then◌else◌}
use Rattle.std.specs.List.{range_with_len}
use Rattle.ln_algebra.specs.Exchange.{Turns}
use Rattle.ln_algebra.specs.Orders.{Rank}
use Rattle.ln_algebra.specs.Terms.{power_of}
use Rattle.ln_algebra.specs.Tree.{InputsBelow, Tree}
use Rattle.ln_tree.specs.declared.shape.VarInfo.{VarInfo}
use Rattle.ln_tree.specs.Row.{InRange, Row, values}
use Rattle.ln_tree.specs.Variables.{is_laid_out, same_site}
use Rattle.ln_order.specs.Order.{IsOrder, index_at}
use Rattle.ln_order.specs.Rows.{RowSign}
use Rattle.ln_order.specs.Sites.{site_of}

-- site k in place of site j and j in place of k; each other site stays
abbrev pub other_of : ℕ → ℕ → ℕ → ℕ
other_of j k s = if eqb s j then k else (if eqb s k then j else s)

-- the ends of the range of variable v
abbrev pub range_at : List VarInfo → ℕ → ℤ × ℤ
range_at [] v = (pos 0, pos 0)
range_at (i ∷ is) zero = (i.lo, i.hi)
range_at (i ∷ is) (suc v) = range_at is v

-- sites j and k are of one type: the partner of a coordinate of one is that of the other, in declared order and with the same range; each variable
-- is its partner's partner, and a param its own
pub record AreAlike (vars : List VarInfo) (j k : ℕ) (partner : ℕ → ℕ) : Type 0 where
  pub within : (v : ℕ) → v < length vars → partner v < length vars
  pub twice : (v : ℕ) → partner (partner v) ≡ v
  pub sites : (v : ℕ) → site_of vars (partner v) ≡ option_map (other_of j k) (site_of vars v)
  pub params : (v : ℕ) → site_of vars v ≡ None → partner v ≡ v
  pub declared : (v w s : ℕ) → site_of vars v ≡ Some s → site_of vars w ≡ Some s → v < w → partner v < partner w
  pub ranges : (v : ℕ) → range_at vars (partner v) ≡ range_at vars v

-- is v a variable of site j?
abbrev pub is_of_site : List VarInfo → ℕ → ℕ → Bool
is_of_site vars j v = same_site (site_of vars v) (Some j)

-- the partner where the coordinates of site j + 1 are d variables after those of site j
abbrev pub partner_at : List VarInfo → ℕ → ℕ → ℕ → ℕ
partner_at vars j d v = if is_of_site vars j v then v + d else (if is_of_site vars (suc j) v then v - d else v)

-- so they are: d variables after each coordinate of site j is one of site j + 1 with the same range, and d before each of these is one of j
pub record IsShift (vars : List VarInfo) (j d : ℕ) : Type 0 where
  pub up : (v : ℕ) → is_of_site vars j v ≡ true → is_of_site vars (suc j) (v + d) ≡ true
  pub down : (v : ℕ) → is_of_site vars (suc j) v ≡ true → (d ≤ v) × (is_of_site vars j (v - d) ≡ true)
  pub ranges : (v : ℕ) → is_of_site vars j v ≡ true → range_at vars (v + d) ≡ range_at vars v

-- one row is the other with sites j and k exchanged, their indices and their values
pub record AreExchanged (vars : List VarInfo) (j k : ℕ) (partner : ℕ → ℕ) (was now : Row) : Type 0 where
  pub size : length now.index ≡ length was.index
  pub count : length now.values ≡ length was.values
  pub index : (s : ℕ) → index_at now.index s ≡ index_at was.index (other_of j k s)
  pub value : (v : ℕ) → v < length vars → values now.values v ≡ values was.values (partner v)

-- each two neighbouring sites are of one type
abbrev pub NeighboursAlike : ℕ → List VarInfo → (ℕ → ℕ → ℕ) → Type 0
NeighboursAlike sites vars partner = (j : ℕ) → suc j < sites → AreAlike vars j (suc j) (partner j)

-- and exchanging them multiplies the normal polynomial by the same s
abbrev pub NeighboursTurn : ℕ → List VarInfo → (ℕ → ℕ → ℕ) → ℤ → Tree → Type 0
NeighboursTurn sites vars partner s e =
    (j : ℕ) → suc j < sites → AreAlike vars j (suc j) (partner j) × Turns (length vars) (partner j) s e

-- exchanges of neighbouring sites lead from one row to another; t is the product of an s for each exchange
pub data StepsTo (sites : ℕ) (vars : List VarInfo) (partner : ℕ → ℕ → ℕ) (s : ℤ) : Row → Row → ℤ → Type 0 where
  stays : (row : Row) → StepsTo sites vars partner s row row (pos 1)
  goes : (was now end : Row) (t : ℤ) (j : ℕ) → suc j < sites → AreExchanged vars j (suc j) (partner j) was now
      → StepsTo sites vars partner s now end t → StepsTo sites vars partner s was end (s *ℤ t)

-- the indices rise in order of the arguments
abbrev pub IndicesRise : Row → Type 0
IndicesRise row = AllPairs (λ y z. y <ℤ z) row.index

-- how many pairs of indices are out of order
abbrev pub inversions : List ℤ → ℕ
inversions [] = 0
inversions (z ∷ zs) = count_by (λ y. int_lt y z) zs + inversions zs

-- ---- laws
-- the perturbed sign of the row with two sites exchanged is s times the sign
abbrev pub ExchangedRowSign : Type 0
ExchangedRowSign =
    (rank : Rank) (vars : List VarInfo) (e : Tree) (j k : ℕ) (partner : ℕ → ℕ) (s : ℤ) (was now : Row) (sign : ℤ) →
    AreAlike vars j k partner → AreExchanged vars j k partner was now → InputsBelow (length vars) e → Turns (length vars) partner s e →
    RowSign rank vars e was sign → RowSign rank vars e now (s *ℤ sign)

-- where exchanges of neighbours lead to a row, its sign times their product is the sign
abbrev pub SignAlongSteps : Type 0
SignAlongSteps =
    (rank : Rank) (sites : ℕ) (vars : List VarInfo) (e : Tree) (partner : ℕ → ℕ → ℕ) (s t : ℤ) (row sorted : Row) (sign : ℤ) →
    InputsBelow (length vars) e → NeighboursTurn sites vars partner s e → StepsTo sites vars partner s row sorted t →
    RowSign rank vars e sorted sign → RowSign rank vars e row (t *ℤ sign)

-- a row in range whose indices rise, to which exchanges of neighbours lead; the power of s is the number of inversions of the row's indices
pub record SortedRow (sites : ℕ) (vars : List VarInfo) (partner : ℕ → ℕ → ℕ) (s : ℤ) (row : Row) : Type 0 where
  pub sorted : Row
  pub range : InRange sites vars sorted
  pub rises : IndicesRise sorted
  pub steps : StepsTo sites vars partner s row sorted (power_of s (inversions row.index))

-- each row in range has one
abbrev pub RowsSort : Type 0
RowsSort =
    (sites : ℕ) (vars : List VarInfo) (partner : ℕ → ℕ → ℕ) (s : ℤ) (row : Row) → NeighboursAlike sites vars partner → InRange sites vars row →
    SortedRow sites vars partner s row

-- neighbouring sites whose coordinates are d variables apart are alike
abbrev pub ShiftsAreAlike : Type 0
ShiftsAreAlike = (vars : List VarInfo) (j d : ℕ) → IsShift vars j d → AreAlike vars j (suc j) (partner_at vars j d)

-- the first variable of site s, from 0 on; how many variables there are where it has none
abbrev pub first_of_site : List VarInfo → ℕ → ℕ
first_of_site [] s = 0
first_of_site (i ∷ is) s = if same_site i.site (Some s) then 0 else suc (first_of_site is s)

-- how many variables after that of site j the first of site j + 1 is
abbrev pub shift_of : List VarInfo → ℕ → ℕ
shift_of vars j = first_of_site vars (suc j) - first_of_site vars j

-- sites of one type have their coordinates this many variables apart, and the partner is the one there
pub record AreShifted (vars : List VarInfo) (j : ℕ) (partner : ℕ → ℕ) : Type 0 where
  pub shift : IsShift vars j (shift_of vars j)
  pub partners : (v : ℕ) → partner v ≡ partner_at vars j (shift_of vars j) v

-- Neighbouring sites of one type are a shift apart, and the partner is the variable there.
abbrev pub AlikeAreShifted : Type 0
AlikeAreShifted =
    (sites : ℕ) (vars : List VarInfo) (j : ℕ) (partner : ℕ → ℕ) → is_laid_out sites vars ≡ true → suc j < sites → AreAlike vars j (suc j) partner →
    AreShifted vars j partner

-- indices that rise have the order of the arguments
abbrev pub RisingIsInOrder : Type 0
RisingIsInOrder = (indices : List ℤ) → AllPairs (λ y z. y <ℤ z) indices → IsOrder indices (range_with_len 0 (length indices))
