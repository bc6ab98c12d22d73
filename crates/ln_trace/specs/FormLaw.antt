-- The laws of the text of traces.
use Rattle.std.specs.Prelude.{◌≡◌, ℕ, ◌^◌, ◌<◌, ◌≤◌, unsigned_abs, true, List, ◌++◌, length}
use Rattle.ln_base.specs.Exponents.{Each}
use Rattle.ln_algebra.specs.Terms.{IsNormalOf}
use Rattle.ln_algebra.specs.Tree.{InputsBelow}
use Rattle.ln_algebra.specs.Weights.{weighted_sum}
use Rattle.ln_bound.specs.Light.{most}
use Rattle.ln_bound.specs.Value.{weights}
use Rattle.ln_tree.specs.Variables.{is_laid_out}
use Rattle.ln_poly.specs.Sparse.{Sparse, terms_of}
use Rattle.ln_rows.specs.Left.{Records}
use Rattle.ln_trace.specs.declared.line.TraceLine.{TraceLine}
use Rattle.ln_trace.specs.declared.line.TraceLine.TheVariants as line
use Rattle.ln_trace.specs.Form.{IsFormFault, TraceText, WholeRecords}
use Rattle.ln_trace.specs.Signs.{AreExplained, HaveStages}
use Rattle.ln_trace.specs.Text.{IsLine, first_line, text_of_lines}
use Rattle.ln_trace.specs.Trace.{Subject}

-- no bytes are two traces
abbrev pub OneTrace : Type 0
OneTrace = (bytes : List ℕ) (xs ys : List TraceLine) → TraceText bytes xs → TraceText bytes ys → xs ≡ ys

-- bytes that have a form fault are no trace
abbrev pub FaultsAreNoTraces : Type 0
FaultsAreNoTraces = (bytes : List ℕ) (at : ℕ) (ls : List TraceLine) → IsFormFault bytes at → TraceText bytes ls → ⊥

-- bytes have one form fault at most
abbrev pub OneFormFault : Type 0
OneFormFault = (bytes : List ℕ) (m n : ℕ) → IsFormFault bytes m → IsFormFault bytes n → m ≡ n

-- whole records after the first line are a trace
abbrev pub RecordsAreTraces : Type 0
RecordsAreTraces = (ls : List TraceLine) → WholeRecords ls → Each IsLine ls → TraceText (first_line ++ text_of_lines ls) ls

-- a value that a line has is within 2^127 - 1
abbrev pub HasSmallValue : TraceLine → Type 0
HasSmallValue (line.Refused n) = Unit {0}
HasSmallValue (line.Row n) = Unit {0}
HasSmallValue (line.At exps z) = unsigned_abs z < 2 ^ 127
HasSmallValue (line.Sign t) = Unit {0}

-- what is explained of fewer than 2^32 records is a trace, where each row has a stage, there are at most 168 variables and the values
-- are within the range
abbrev pub ExplainedIsTrace : Type 0
ExplainedIsTrace =
    (s : Subject) (records : Records) (lines : List TraceLine) → HaveStages s → length s.vars ≤ 168 → length records < 2 ^ 32 →
    AreExplained s 1 records lines → Each HasSmallValue lines → TraceText (first_line ++ text_of_lines lines) lines

-- the subject isn't too large as a whole: the sum of its normal polynomial, where each variable weighs 1 more than the largest absolute value of
-- its range, is at most 2^127 - 1
pub record HasSmallSum (s : Subject) : Type 0 where
  pub inputs : InputsBelow (length s.vars) s.tree
  pub poly : Sparse
  pub normal : IsNormalOf (length s.vars) s.tree (terms_of (length s.vars) poly)
  pub light : weighted_sum (weights s.vars) (terms_of (length s.vars) poly) ≤ most

-- of such a subject each value that is explained is within the range, as no coefficient on a row in range exceeds that sum
abbrev pub ExplainedIsSmall : Type 0
ExplainedIsSmall =
    (s : Subject) (records : Records) (lines : List TraceLine) → is_laid_out s.sites s.vars ≡ true → HasSmallSum s →
    AreExplained s 1 records lines → Each HasSmallValue lines
