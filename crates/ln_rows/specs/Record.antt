-- Defines what a record says: a row of a predicate, or the fault that it has.
use Rattle.std.specs.Prelude.{◌≡◌, ℕ, zero, suc, ◌-◌, ◌^◌, ◌≤◌, ◌==◌, slice_index_or, if◌then◌else◌, ℤ, pos, List}
use Rattle.std.specs.Prelude.{[], ◌∷◌, length, take, Option, Some, None, unwrap_or, Result, Ok, Err, OnOk, IfErr}
use Rattle.ln_base.specs.Decimal.{integer_value}
use Rattle.ln_tree.specs.declared.shape.VarInfo.{VarInfo}
use Rattle.ln_tree.specs.Variables.{starts_site}
use Rattle.ln_tree.specs.Row.{Row, InRange}
use Rattle.ln_code.specs.declared.row.Row as code
use Rattle.ln_code.specs.RowOf.{row_of}
use Rattle.ln_order.specs.Order.{first_equal}
use Rattle.ln_rows.specs.Number.{number_in}
use Rattle.ln_rows.specs.declared.numbers.NumberStop.{NumberStop}
use Rattle.ln_rows.specs.declared.numbers.NumberStop.TheVariants as stop
use Rattle.ln_rows.specs.declared.record.RowStop.{RowStop}
use Rattle.ln_rows.specs.declared.record.RowStop.TheVariants.{Fields, Number, Range, Index}

-- a column: the index of a site, or a variable
pub data Column : Type 0 where
  SiteIndex : Column
  Variable : VarInfo → Column

-- the columns of a predicate with these variables: the index of a site is before its coordinates
abbrev pub columns : List VarInfo → List Column
columns [] = []
columns (i ∷ is) = if starts_site i then SiteIndex ∷ Variable i ∷ columns is else Variable i ∷ columns is

-- the number of a field in a column, which is from 0 to 2^63 - 1 for an index, in its declared range for a variable
abbrev pub column_number : Column → List ℕ → Result ℤ NumberStop
column_number SiteIndex field = number_in (pos 0) (pos (2 ^ 63 - 1)) field
column_number (Variable i) field = number_in i.lo i.hi field

-- the same with the fault named by the column's number
abbrev pub in_column : ℕ → Result ℤ NumberStop → Result ℤ RowStop
in_column k (Ok z) = Ok z
in_column k (Err stop.Number) = Err (Number k)
in_column k (Err stop.Range) = Err (Range k)

-- the fault of a column, or what the columns after it have
abbrev pub fault_or : Result ℤ RowStop → Option RowStop → Option RowStop
fault_or (Ok z) behind = behind
fault_or (Err e) behind = Some e

-- the fault of the first column from the left that has one, of the columns from number k on
abbrev pub first_fault : ℕ → List Column → List (List ℕ) → Option RowStop
first_fault k [] fields = None
first_fault k (c ∷ cs) [] = None
first_fault k (c ∷ cs) (f ∷ fs) = fault_or (in_column k (column_number c f)) (first_fault (suc k) cs fs)

-- the number that a field says, where it says one
abbrev pub said : List ℕ → ℤ
said field = unwrap_or (integer_value field) (pos 0)

-- the numbers in the columns of indices
abbrev pub indices : List Column → List (List ℕ) → List ℤ
indices [] fields = []
indices (c ∷ cs) [] = []
indices (SiteIndex ∷ cs) (f ∷ fs) = said f ∷ indices cs fs
indices (Variable i ∷ cs) (f ∷ fs) = indices cs fs

-- the numbers in the columns of variables
abbrev pub values : List Column → List (List ℕ) → List ℤ
values [] fields = []
values (c ∷ cs) [] = []
values (SiteIndex ∷ cs) (f ∷ fs) = values cs fs
values (Variable i ∷ cs) (f ∷ fs) = said f ∷ values cs fs

-- the number of the column with the index of site s, where the columns are counted from k
abbrev pub index_column : ℕ → ℕ → List Column → ℕ
index_column k s [] = k
index_column k zero (SiteIndex ∷ cs) = k
index_column k (suc s) (SiteIndex ∷ cs) = index_column (suc k) s cs
index_column k s (Variable i ∷ cs) = index_column (suc k) s cs

-- the row, or the fault that a site has the index of an earlier one
abbrev pub differing : List Column → Row → Option ℕ → Result Row RowStop
differing cs r None = Ok r
differing cs r (Some s) = Err (Index (index_column 0 s cs))

-- the row, where no column has a fault and the indices differ
abbrev pub unless_fault : List Column → Row → Option RowStop → Result Row RowStop
unless_fault cs r None = differing cs r (first_equal r.index)
unless_fault cs r (Some stop) = Err stop

-- the row that a record says, over this many sites and these variables, or the first of its faults: another number of fields than
-- of columns; the first column that has no number or one outside its range; the first site whose index an earlier site has
abbrev pub read_row : ℕ → List VarInfo → List (List ℕ) → Result Row RowStop
read_row sites vars fields =
    if length fields == length (columns vars)
    then unless_fault (columns vars)
    (record { index = take sites (indices (columns vars) fields); values = values (columns vars) fields })
    (first_fault 0 (columns vars) fields)
    else Err Fields

-- the columns have no fault, and the row of the program is what they say
pub record IsRead (vars : List VarInfo) (fields : List (List ℕ)) (r : code.Row) : Type 0 where
  pub fault : first_fault 0 (columns vars) fields ≡ None
  pub index : take (length (columns vars) - length vars) r.index ≡ indices (columns vars) fields
  pub values : take (length vars) r.values ≡ values (columns vars) fields

-- the result on a record with these fields: the program's row is what it says, which is in range, or it has this first fault
pub record IsReadAs {T : Type 0} (sites : ℕ) (vars : List VarInfo) (fields : List (List ℕ)) (read : Result T RowStop)
    (r : code.Row) : Type 0 where
  pub ok : OnOk read (read_row sites vars fields ≡ Ok (row_of sites vars r))
  pub err : IfErr read (λ e. read_row sites vars fields ≡ Err e)
  pub in_range : OnOk read (InRange sites vars (row_of sites vars r))

-- the places after this many sites and this many variables are the same in both rows of the program
pub record StaysPast (sites vars : ℕ) (old new : code.Row) : Type 0 where
  pub index : (k : ℕ) → sites ≤ k → slice_index_or new.index k (pos 0) ≡ slice_index_or old.index k (pos 0)
  pub values : (k : ℕ) → vars ≤ k → slice_index_or new.values k (pos 0) ≡ slice_index_or old.values k (pos 0)

-- what a refused record leaves: this many indices and this many values are those that its fields say, and every other place is as it was
pub record IsBegun (vars : List VarInfo) (fields : List (List ℕ)) (old new : code.Row) : Type 0 where
  pub sites_read : ℕ
  pub vars_read : ℕ
  pub index : take sites_read new.index ≡ take sites_read (indices (columns vars) fields)
  pub value : take vars_read new.values ≡ take vars_read (values (columns vars) fields)
  pub index_stays : (k : ℕ) → sites_read ≤ k → slice_index_or new.index k (pos 0) ≡ slice_index_or old.index k (pos 0)
  pub value_stays : (k : ℕ) → vars_read ≤ k → slice_index_or new.values k (pos 0) ≡ slice_index_or old.values k (pos 0)
