-- A row that is read is in range.
use Rattle.std.proofs.Common.{◌≡◌, ◌≢◌, ℕ, suc, ◌+◌, ◌-◌, ◌^◌, ◌≤◌, Bool, true, false, ◌&&◌, cond, List, [], ◌∷◌, length, take, ℤ, pos}
use Rattle.std.proofs.Common.{◌≤ℤ◌, Option, Some, None, Result, Ok, Err, refl, ap, ◌∙◌, subst, arith}
use Rattle.std.specs.Prelude.{unwrap_or, int_le, count_by, if◌then◌else◌, All, AllPairs, MatchOption, ◌==◌}
use Rattle.std.proofs.lemmas.Bool.{and_parts, eqb-true}
use Rattle.std.proofs.lemmas.Int.{ints}
use Rattle.std.proofs.lemmas.List.{take_all}
use Rattle.std.proofs.lemmas.List.Elements.{All-nil, All-cons}
use Rattle.std.proofs.lemmas.List.Recursion.{is_count_by}
use Rattle.ln_base.specs.Decimal.{integer_value}
use Rattle.ln_tree.specs.declared.shape.VarInfo.{VarInfo}
use Rattle.ln_tree.specs.Variables.{starts_site, is_laid_out}
use Rattle.ln_tree.specs.Row.{Row, AreWithin, InRange}
use Rattle.ln_tree.proofs.KeptLemmas.{within_length, laid_out, LaidOut}
use Rattle.ln_order.specs.Order.{first_equal, IsFirstEqual}
use Rattle.ln_order.proofs.Listing.OrderLemmas.{first_equal_is}
use Rattle.ln_rows.specs.Number.{within}
use Rattle.ln_rows.specs.Record.{Column, SiteIndex, Variable, columns, column_number, in_column, fault_or, first_fault, said, indices, values}
use Rattle.ln_rows.specs.Record.{differing, unless_fault, read_row}
use Rattle.ln_rows.specs.declared.numbers.NumberStop.TheVariants as stop
use Rattle.ln_rows.specs.declared.record.RowStop.{RowStop}
use Rattle.ln_rows.specs.declared.record.RowStop.TheVariants.{Fields}
use Rattle.ln_rows.proofs.Fields.RowLemmas.{columns_at_least}

-- how many columns there are beside the variables: one for each site
more_columns : List VarInfo → ℕ
more_columns vars = length (columns vars) - length vars

one_more : (i : VarInfo) (is : List VarInfo) → more_columns (i ∷ is) ≡ cond (starts_site i) (1 + more_columns is) (more_columns is)
unfolding more_columns
one_more i is = go (starts_site i) (columns_at_least is) where
  go : (b : Bool) → length is ≤ length (columns is) → length (if b then SiteIndex ∷ Variable i ∷ columns is else Variable i ∷ columns is) - suc (length is)
      ≡ cond b (1 + (length (columns is) - length is)) (length (columns is) - length is)
  go true h = omega (arith, h)
  go false h = omega (arith, h)

-- a column for each variable and each site
pub columns_length : (vars : List VarInfo) → length (columns vars) ≡ length vars + count_by starts_site vars
unfolding more_columns
columns_length vars = let e = is_count_by more_columns starts_site refl one_more vars in omega (arith, e, columns_at_least vars)

-- a column without a fault, and those after it
no_fault : (r : Result ℤ RowStop) (behind : Option RowStop) → fault_or r behind ≡ None → (z : ℤ) × (r ≡ Ok z) × (behind ≡ None)
no_fault (Ok z) behind h = (z, refl, h)
no_fault (Err e) behind h = absurd (cc)

-- a field without a fault says a number within the range
number_within : (lo hi z : ℤ) (o : Option ℤ) (k : ℕ) → in_column k (within lo hi o) ≡ Ok z → (lo ≤ℤ unwrap_or o (pos 0)) × (unwrap_or o (pos 0) ≤ℤ hi)
number_within lo hi z None k h = absurd (cc)
number_within lo hi z (Some y) k h = go (int_le lo y && int_le y hi) refl h where
  both : (int_le lo y && int_le y hi) ≡ true → (lo ≤ℤ y) × (y ≤ℤ hi)
  both e = let p = and_parts (int_le lo y) (int_le y hi) e in (grind (arith, ints, p.0), grind (arith, ints, p.1))

  go : (t : Bool) → (int_le lo y && int_le y hi) ≡ t → in_column k (if t then Ok y else Err stop.Range) ≡ Ok z → (lo ≤ℤ y) × (y ≤ℤ hi)
  go true e f = both e
  go false e f = absurd (cc)

-- the indices are from 0 to 2^63 - 1
pub indices_within : (cs : List Column) (fields : List (List ℕ)) (k : ℕ) → first_fault k cs fields ≡ None
    → All (λ z. (pos 0 ≤ℤ z) × (z ≤ℤ pos (2 ^ 63 - 1))) (indices cs fields)
indices_within [] fields k h = All-nil _
indices_within (c ∷ cs) [] k h = All-nil _
indices_within (SiteIndex ∷ cs) (f ∷ fs) k h =
    let p = no_fault (in_column k (column_number SiteIndex f)) (first_fault (suc k) cs fs) h in
    All-cons (λ z. (pos 0 ≤ℤ z) × (z ≤ℤ pos (2 ^ 63 - 1))) (said f) (indices cs fs)
    (number_within (pos 0) (pos (2 ^ 63 - 1)) p.0 (integer_value f) k p.1) (indices_within cs fs (suc k) p.2)
indices_within (Variable i ∷ cs) (f ∷ fs) k h =
    indices_within cs fs (suc k) (no_fault (in_column k (column_number (Variable i) f)) (first_fault (suc k) cs fs) h).2

-- the values of variables are in their ranges, where those after it are
Within : List VarInfo → Type 0
Within is = (k : ℕ) (fs : List (List ℕ)) → length fs ≡ length (columns is) → first_fault k (columns is) fs ≡ None → AreWithin is (values (columns is) fs)

value_within : (i : VarInfo) (is : List VarInfo) → Within is → (k : ℕ) (fs : List (List ℕ)) → length fs ≡ suc (length (columns is))
    → first_fault k (Variable i ∷ columns is) fs ≡ None → AreWithin (i ∷ is) (values (Variable i ∷ columns is) fs)
unfolding Within
value_within i is behind k [] size h = absurd (omega (arith, size))
value_within i is behind k (f ∷ fs) size h =
    let p = no_fault (in_column k (column_number (Variable i) f)) (first_fault (suc k) (columns is) fs) h in
    let w = number_within i.lo i.hi p.0 (integer_value f) k p.1 in
    (w.0, w.1, behind (suc k) fs (omega (arith, size)) p.2)

site_within : (i : VarInfo) (is : List VarInfo) → Within is → (k : ℕ) (fs : List (List ℕ)) → length fs ≡ suc (suc (length (columns is)))
    → first_fault k (SiteIndex ∷ Variable i ∷ columns is) fs ≡ None
    → AreWithin (i ∷ is) (values (SiteIndex ∷ Variable i ∷ columns is) fs)
site_within i is behind k [] size h = absurd (omega (arith, size))
site_within i is behind k (f ∷ fs) size h =
    value_within i is behind (suc k) fs (omega (arith, size))
    (no_fault (in_column k (column_number SiteIndex f)) (first_fault (suc k) (Variable i ∷ columns is) fs) h).2

-- the values are in their ranges
values_within : (vars : List VarInfo) → Within vars
unfolding Within
values_within [] k fs size h = tt
values_within (i ∷ is) k fs size h = go (starts_site i) (values_within is) size h where
  go : (b : Bool) → Within is → length fs ≡ length (if b then SiteIndex ∷ Variable i ∷ columns is else Variable i ∷ columns is)
      → first_fault k (if b then SiteIndex ∷ Variable i ∷ columns is else Variable i ∷ columns is) fs ≡ None
      → AreWithin (i ∷ is) (values (if b then SiteIndex ∷ Variable i ∷ columns is else Variable i ∷ columns is) fs)
  go true w s e = site_within i is w k fs s e
  go false w s e = value_within i is w k fs s e

values_within_at : (vars : List VarInfo) (k : ℕ) (fs : List (List ℕ)) → length fs ≡ length (columns vars)
    → first_fault k (columns vars) fs ≡ None → AreWithin vars (values (columns vars) fs)
unfolding Within
values_within_at vars k fs size h = values_within vars k fs size h

-- each column has an index or a value
all_said : (cs : List Column) (fields : List (List ℕ)) → length fields ≡ length cs → length (indices cs fields) + length (values cs fields) ≡ length cs
all_said [] fields h = refl
all_said (c ∷ cs) [] h = absurd (omega (arith, h))
all_said (SiteIndex ∷ cs) (f ∷ fs) h = omega (arith, all_said cs fs (omega (arith, h)))
all_said (Variable i ∷ cs) (f ∷ fs) h = omega (arith, all_said cs fs (omega (arith, h)))

-- where a record is a row
pub record IsRow (sites : ℕ) (vars : List VarInfo) (fields : List (List ℕ)) (r : Row) : Type 0 where
  pub size : length fields ≡ length (columns vars)
  pub fault : first_fault 0 (columns vars) fields ≡ None
  pub differ : first_equal (take sites (indices (columns vars) fields)) ≡ None
  pub is : record { index = take sites (indices (columns vars) fields); values = values (columns vars) fields } ≡ r

differ_ok : (cs : List Column) (q r : Row) (o : Option ℕ) → differing cs q o ≡ Ok r → (o ≡ None) × (q ≡ r)
differ_ok cs q r None h = (refl, cc)
differ_ok cs q r (Some s) h = absurd (cc)

fault_ok : (cs : List Column) (q r : Row) (o : Option RowStop) → unless_fault cs q o ≡ Ok r → (o ≡ None) × (first_equal q.index ≡ None) × (q ≡ r)
fault_ok cs q r None h = let p = differ_ok cs q r (first_equal q.index) h in (refl, p.0, p.1)
fault_ok cs q r (Some e) h = absurd (cc)

size_ok : (b : Bool) (x : Result Row RowStop) (r : Row) → (if b then x else Err Fields) ≡ Ok r → (b ≡ true) × (x ≡ Ok r)
size_ok true x r h = (refl, h)
size_ok false x r h = absurd (cc)

-- a record of which a row is read has no fault, and the row is what its columns say
pub is_row : (sites : ℕ) (vars : List VarInfo) (fields : List (List ℕ)) (r : Row) → read_row sites vars fields ≡ Ok r → IsRow sites vars fields r
is_row sites vars fields r h =
    let p = size_ok (length fields == length (columns vars)) _ r h in
    let q = fault_ok (columns vars) _ r (first_fault 0 (columns vars) fields) p.1 in
    record { size = eqb-true _ _ p.0; fault = q.0; differ = q.1; is = q.2 }

none_differ : (zs : List ℤ) → first_equal zs ≡ None → AllPairs (λ y z. y ≢ z) zs
none_differ zs h = subst (λ (o : Option ℕ). MatchOption o (AllPairs (λ y z. y ≢ z) zs) (λ k. IsFirstEqual zs k)) h (first_equal_is zs)

-- what the columns say is in range, where no column has a fault and the indices differ
said_in_range : (sites : ℕ) (vars : List VarInfo) (fields : List (List ℕ)) → LaidOut sites vars → length fields ≡ length (columns vars)
    → first_fault 0 (columns vars) fields ≡ None → first_equal (take sites (indices (columns vars) fields)) ≡ None
    → InRange sites vars (record { index = take sites (indices (columns vars) fields); values = values (columns vars) fields })
said_in_range sites vars fields s size fault differ =
    let w = values_within_at vars 0 fields size fault in
    let n : length (indices (columns vars) fields) ≡ sites =
    omega (arith, all_said (columns vars) fields size, within_length vars (values (columns vars) fields) w, columns_length vars, s.counted) in
    let whole : take sites (indices (columns vars) fields) ≡ indices (columns vars) fields =
    take_all sites (indices (columns vars) fields) (omega (arith, n)) in
    record {
      size = ap length whole ∙ n;
      indices = rw whole (indices_within (columns vars) fields 0 fault);
      differ = none_differ _ differ;
      values = w;
    }

-- a row that a record says is in range
pub row_in_range : (sites : ℕ) (vars : List VarInfo) (fields : List (List ℕ)) (r : Row) → is_laid_out sites vars ≡ true
    → read_row sites vars fields ≡ Ok r → InRange sites vars r
row_in_range sites vars fields r laid h =
    let p = is_row sites vars fields r h in
    subst (λ (q : Row). InRange sites vars q) p.is (said_in_range sites vars fields (laid_out sites vars laid) p.size p.fault p.differ)

-- how many columns a shape has
pub shape_columns : (sites : ℕ) (vars : List VarInfo) → is_laid_out sites vars ≡ true → length (columns vars) ≡ length vars + sites
shape_columns sites vars laid = let s = laid_out sites vars laid in omega (arith, columns_length vars, s.counted)
