-- Defines the rules on the lines of a trace: which line is allowed where, by a predicate and the records of a rows file. No program is asked.
-- Source: the staged evaluation of Simulation of Simplicity (Edelsbrunner and Mücke 1990), stage by stage.
use Rattle.std.specs.Prelude.{◌≡◌, ℕ, ◌+◌, ℤ, List, [], ◌∷◌, length, Ok, Err}
use Rattle.ln_base.specs.declared.sign.Sign.{Sign}
use Rattle.ln_algebra.specs.Tree.{Tree}
use Rattle.ln_tree.specs.declared.shape.VarInfo.{VarInfo}
use Rattle.ln_tree.specs.Exps.{IsRising, Pairs, vector}
use Rattle.ln_tree.specs.Row.{Row, values}
use Rattle.ln_order.specs.Sites.{row_sites}
use Rattle.ln_code.specs.Kept.{AreOfSites}
use Rattle.ln_due.specs.Due.{sign_number}
use Rattle.ln_rows.specs.Left.{Records}
use Rattle.ln_rows.specs.Record.{read_row}
use Rattle.ln_rows.specs.declared.record.RowStop.{RowStop}
use Rattle.ln_trace.specs.declared.line.TraceLine.{TraceLine}
use Rattle.ln_trace.specs.declared.line.TraceLine.TheVariants as line
use Rattle.ln_trace.specs.Told.{IsNext, IsSigned, Stood}

-- a predicate: its sites, its variables, and its root with its lets in place of their names
pub record Subject : Type 0 where
  pub sites : ℕ
  pub vars : List VarInfo
  pub tree : Tree

-- between records, of which this many were read and these remain; or in the row of the last one read, after these vectors and values
pub data Place : Type 0 where
  Between : ℕ → Records → Place
  Within : ℕ → Records → Row → Stood → Place

-- ---- one row
-- on this row of a predicate the vector a with the value z may follow those that stood
abbrev pub RowNext : Subject → Row → Stood → List ℕ → ℤ → Type 0
RowNext s row stood a z = IsNext (length s.vars) (row_sites s.vars row.index) (values row.values) s.tree stood a z

-- on this row of a predicate the sign t may follow the vectors and values that stood
abbrev pub RowSigned : Subject → Row → Stood → Sign → Type 0
RowSigned s row stood t = IsSigned (length s.vars) (row_sites s.vars row.index) s.tree stood (sign_number t)

-- ---- the rules
-- `refused`: the number is the next record's, which is invalid
pub record RefusedLine (s : Subject) (seen : ℕ) (left : Records) (n : ℕ) (q : Place) : Type 0 where
  pub number : n ≡ seen + 1
  pub fields : List (List ℕ)
  pub behind : Records
  pub next : left ≡ fields ∷ behind
  pub stop : RowStop
  pub refused : read_row s.sites s.vars fields ≡ Err stop
  pub to : q ≡ Between (seen + 1) behind

-- `row`: the number is the next record's, which is this row
pub record RowLine (s : Subject) (seen : ℕ) (left : Records) (n : ℕ) (q : Place) : Type 0 where
  pub number : n ≡ seen + 1
  pub fields : List (List ℕ)
  pub behind : Records
  pub next : left ≡ fields ∷ behind
  pub row : Row
  pub read : read_row s.sites s.vars fields ≡ Ok row
  pub to : q ≡ Within (seen + 1) behind row []

-- `at`: the variables rise and are coordinates of sites, and the vector with the value may follow those before it
pub record AtLine (s : Subject) (seen : ℕ) (left : Records) (row : Row) (stood : Stood) (exps : Pairs) (z : ℤ) (q : Place) : Type 0 where
  pub rising : IsRising exps
  pub of_sites : AreOfSites s.vars exps
  pub next : RowNext s row stood (vector (length s.vars) exps) z
  pub to : q ≡ Within seen left row ((vector (length s.vars) exps, z) ∷ stood)

-- `sign`: the sign may follow the vectors and values
pub record SignLine (s : Subject) (seen : ℕ) (left : Records) (row : Row) (stood : Stood) (t : Sign) (q : Place) : Type 0 where
  pub signed : RowSigned s row stood t
  pub to : q ≡ Between seen left

-- the rule of a line at a place
abbrev pub Rule : Subject → Place → TraceLine → Place → Type 0
Rule s (Between seen left) (line.Refused n) q = RefusedLine s seen left n q
Rule s (Between seen left) (line.Row n) q = RowLine s seen left n q
Rule s (Between seen left) (line.At exps z) q = ⊥
Rule s (Between seen left) (line.Sign t) q = ⊥
Rule s (Within seen left row stood) (line.Refused n) q = ⊥
Rule s (Within seen left row stood) (line.Row n) q = ⊥
Rule s (Within seen left row stood) (line.At exps z) q = AtLine s seen left row stood exps z q
Rule s (Within seen left row stood) (line.Sign t) q = SignLine s seen left row stood t q
