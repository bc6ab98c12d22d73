-- States what an agreed trace says of each record, and that this is right.
use Rattle.std.specs.Prelude.{◌≡◌, ◌≢◌, ℕ, ◌+◌, ℤ, List, [], ◌∷◌, ◌++◌, length, Option, Some, None, Ok, Err}
use Rattle.ln_base.specs.declared.sign.Sign.{Sign}
use Rattle.ln_algebra.specs.Earlier.{IndicesDiffer}
use Rattle.ln_algebra.specs.Orders.{BySmallest}
use Rattle.ln_algebra.specs.Sign.{sign_along}
use Rattle.ln_algebra.specs.Tree.{InputsBelow}
use Rattle.ln_tree.specs.declared.shape.VarInfo.{VarInfo}
use Rattle.ln_tree.specs.Exps.{IsAbove, IsRising, Pairs, vector}
use Rattle.ln_tree.specs.Row.{Row, values}
use Rattle.ln_order.specs.Rows.{RowSign, RowStages}
use Rattle.ln_order.specs.Sites.{row_sites}
use Rattle.ln_due.specs.Due.{sign_number}
use Rattle.ln_rows.specs.Left.{Records}
use Rattle.ln_rows.specs.Record.{read_row}
use Rattle.ln_rows.specs.declared.record.RowStop.{RowStop}
use Rattle.ln_trace.specs.declared.line.TraceLine.{TraceLine}
use Rattle.ln_trace.specs.declared.line.TraceLine.TheVariants as line
use Rattle.ln_trace.specs.Told.{up_to_first}
use Rattle.ln_trace.specs.Trace.{Subject}
use Rattle.ln_trace.specs.Judge.{IsAgreed}

-- what the lines say of each record, in order: nothing of an invalid one, else its sign
abbrev pub signs_in : List TraceLine → List (Option Sign)
signs_in [] = []
signs_in (line.Refused n ∷ lines) = None ∷ signs_in lines
signs_in (line.Row n ∷ lines) = signs_in lines
signs_in (line.At exps z ∷ lines) = signs_in lines
signs_in (line.Sign t ∷ lines) = Some t ∷ signs_in lines

-- it is right of a record: none where it is invalid, else the perturbed sign of its row
abbrev pub IsRight : Subject → List (List ℕ) → Option Sign → Type 0
IsRight s fields None = (stop : RowStop) × (read_row s.sites s.vars fields ≡ Err stop)
IsRight s fields (Some t) = (row : Row) × (read_row s.sites s.vars fields ≡ Ok row) × RowSign BySmallest s.vars s.tree row (sign_number t)

-- of each record
abbrev pub AreRight : Subject → Records → List (Option Sign) → Type 0
AreRight s [] [] = Unit {0}
AreRight s [] (o ∷ os) = ⊥
AreRight s (fields ∷ records) [] = ⊥
AreRight s (fields ∷ records) (o ∷ os) = IsRight s fields o × AreRight s records os

-- rows that are read have indices of their own; ln_rows proves it of each row that it reads
abbrev pub RowsDiffer : Subject → Type 0
RowsDiffer s = (fields : List (List ℕ)) (row : Row) → read_row s.sites s.vars fields ≡ Ok row → IndicesDiffer (row_sites s.vars row.index)

-- soundness: an agreed trace, whoever made it, has the perturbed sign of each record that is a row
abbrev pub AgreedTracesGiveSigns : Type 0
AgreedTracesGiveSigns =
    (s : Subject) (records : Records) (lines : List TraceLine) → InputsBelow (length s.vars) s.tree → RowsDiffer s →
    IsAgreed s records lines → AreRight s records (signs_in lines)

-- ---- what is explained
-- exponents with values, as lines
abbrev pub at_lines : List (Pairs × ℤ) → List TraceLine
at_lines [] = []
at_lines (p ∷ ps) = line.At p.0 p.1 ∷ at_lines ps

-- these pairs are exponents of those vectors, with the same values
abbrev pub AreOf : List VarInfo → List (Pairs × ℤ) → List (List ℕ × ℤ) → Type 0
AreOf vars [] [] = Unit {0}
AreOf vars [] (t ∷ ts) = ⊥
AreOf vars (p ∷ ps) [] = ⊥
AreOf vars (p ∷ ps) (t ∷ ts) = IsRising p.0 × IsAbove p.0 (length vars) × (vector (length vars) p.0 ≡ t.0) × (p.1 ≡ t.1) × AreOf vars ps ts

-- the lines of a record with this number: that it is invalid; or its row, the members of its stage list up to and with the first whose
-- coefficient isn't 0, all where there is none, and the sign
pub data Explains (s : Subject) (n : ℕ) (fields : List (List ℕ)) : List TraceLine → Type 0 where
  no_row : (stop : RowStop) → read_row s.sites s.vars fields ≡ Err stop → Explains s n fields (line.Refused n ∷ [])
  a_row : (row : Row) (list : List (List ℕ)) (ps : List (Pairs × ℤ)) (t : Sign) → read_row s.sites s.vars fields ≡ Ok row
      → RowStages BySmallest s.vars s.tree row list
      → AreOf s.vars ps (up_to_first (row_sites s.vars row.index) (values row.values) s.tree list)
      → sign_number t ≡ sign_along (row_sites s.vars row.index) (values row.values) s.tree list
      → Explains s n fields (line.Row n ∷ at_lines ps ++ line.Sign t ∷ [])

-- those of all records, from this number on
abbrev pub AreExplained : Subject → ℕ → Records → List TraceLine → Type 0
AreExplained s n [] lines = lines ≡ []
AreExplained s n (fields ∷ records) lines =
    (front : List TraceLine) × (rest : List TraceLine) × Explains s n fields front × AreExplained s (n + 1) records rest × (lines ≡ front ++ rest)

-- a row has some stage: that of no exponents, where the polynomial isn't 0
abbrev pub HaveStages : Subject → Type 0
HaveStages s = (row : Row) (list : List (List ℕ)) → RowStages BySmallest s.vars s.tree row list → list ≢ []

-- completeness: what is explained is agreed
abbrev pub ExplainedIsAgreed : Type 0
ExplainedIsAgreed =
    (s : Subject) (records : Records) (lines : List TraceLine) → RowsDiffer s → HaveStages s → AreExplained s 1 records lines →
    IsAgreed s records lines
