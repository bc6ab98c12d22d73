-- Proves that the result of `row` is that of the definition.
use Rattle.std.proofs.Common.{◌≡◌, ◌≢◌, ℕ, ◌-◌, true, List, length, take, Some, None, Ok, Err, refl, ◌∙◌, arith, eq-eqb, ne_eqb}
use Rattle.std.proofs.lemmas.List.{take_all, length-take}
use Rattle.ln_tree.specs.declared.shape.VarInfo.{VarInfo}
use Rattle.ln_tree.specs.Variables.{is_laid_out}
use Rattle.ln_code.specs.declared.row.Row.{Row}
use Rattle.ln_code.specs.RowOf.{row_of}
use Rattle.ln_order.specs.Order.{first_equal}
use Rattle.ln_rows.specs.Record.{columns, indices, index_column, unless_fault, read_row, IsRead}
use Rattle.ln_rows.specs.declared.record.RowStop.TheVariants.{Fields, Index}
use Rattle.ln_rows.proofs.Fields.RangeLemmas.{shape_columns}

-- another number of fields than of columns
pub not_fields : (sites : ℕ) (vars : List VarInfo) (fields : List (List ℕ)) → length fields ≢ length (columns vars) → read_row sites vars fields ≡ Err Fields
not_fields sites vars fields ne = rw (ne_eqb (length fields) (length (columns vars)) ne) refl

-- the first places of a row that was read are the indices
read_indices : (sites : ℕ) (vars : List VarInfo) (fields : List (List ℕ)) (r : Row) → is_laid_out sites vars ≡ true → IsRead vars fields r
    → take sites (indices (columns vars) fields) ≡ take sites r.index
read_indices sites vars fields r laid read =
    let n : length (columns vars) - length vars ≡ sites = omega (arith, shape_columns sites vars laid) in
    let e : take sites r.index ≡ indices (columns vars) fields = rw n at read.index in
    rw (← e) (take_all sites (take sites r.index) (omega (arith, length-take sites r.index)))

-- the result by the search for equal indices
by_indices : (sites : ℕ) (vars : List VarInfo) (fields : List (List ℕ)) (r : Row) → is_laid_out sites vars ≡ true
    → length fields ≡ length (columns vars) → IsRead vars fields r
    → read_row sites vars fields ≡ unless_fault (columns vars) (row_of sites vars r) None
by_indices sites vars fields r laid size read =
    rw (eq-eqb (length fields) (length (columns vars)) size, read.fault, read_indices sites vars fields r laid read, ← read.values) refl

-- the indices differ
pub is_said : (sites : ℕ) (vars : List VarInfo) (fields : List (List ℕ)) (r : Row) → is_laid_out sites vars ≡ true
    → length fields ≡ length (columns vars) → IsRead vars fields r → first_equal (take sites r.index) ≡ None
    → read_row sites vars fields ≡ Ok (row_of sites vars r)
is_said sites vars fields r laid size read none = by_indices sites vars fields r laid size read ∙ rw none refl

-- a site has the index of an earlier one
pub has_equal : (sites : ℕ) (vars : List VarInfo) (fields : List (List ℕ)) (r : Row) (place : ℕ) → is_laid_out sites vars ≡ true
    → length fields ≡ length (columns vars) → IsRead vars fields r → first_equal (take sites r.index) ≡ Some place
    → read_row sites vars fields ≡ Err (Index (index_column 0 place (columns vars)))
has_equal sites vars fields r place laid size read some = by_indices sites vars fields r laid size read ∙ rw some refl
