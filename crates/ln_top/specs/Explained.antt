-- States that `explain` writes the text of a trace that tells the stages of each row and its perturbed sign, and that `audit` agrees to it.
use Rattle.std.specs.Prelude.{◌≡◌, ℕ, List, [], ◌∷◌, ◌++◌, length, Option}
use Rattle.ln_base.specs.Outside.{Shelf, Shown}
use Rattle.ln_tree.specs.Table.{PredOf}
use Rattle.ln_rows.specs.Left.{Records}
use Rattle.ln_trace.specs.declared.line.TraceLine.{TraceLine}
use Rattle.ln_trace.specs.Form.{TraceText}
use Rattle.ln_trace.specs.Judge.{IsAgreed}
use Rattle.ln_trace.specs.Signs.{AreExplained, AreRight, signs_in}
use Rattle.ln_trace.specs.Text.{first_line, text_of_lines}
use Rattle.ln_top.specs.declared.frame.status.End.TheVariants.{Done}
use Rattle.ln_top.specs.declared.words.Command.TheVariants as command
use Rattle.ln_top.specs.Judges.Audit.{AuditSaid, HasTrace, agreed_text}
use Rattle.ln_top.specs.Frame.Subject.{subject_of}
use Rattle.ln_top.specs.Signs.Run.{HasRecords}
use Rattle.ln_top.specs.Frame.Said.{put_both, whole}
use Rattle.ln_top.specs.Frame.Given.{Given}
use Rattle.ln_top.specs.Steps.{WhereGiven}

-- what came to Out is the text of a trace whose lines explain these records, in order; a judge agrees to them, and the sign that they say of
-- each row is its perturbed sign. And `audit` of files with this predicate, these records after the right header and this text as the trace,
-- requires `agreed` with the number of records. Nothing came to Err
pub record PutTrace (p : PredOf) (records : Records) (was now : Option Shown) : Type 0 where
  pub lines : List TraceLine
  pub explained : AreExplained (subject_of p) 1 records lines
  pub text : TraceText (first_line ++ text_of_lines lines) lines
  pub agreed : IsAgreed (subject_of p) records lines
  pub right : AreRight (subject_of p) records (signs_in lines)
  pub audited : (h : Given) (names : List (List ℕ)) → HasTrace h p names (names ∷ records) (first_line ++ text_of_lines lines)
      → AuditSaid h (whole Done (agreed_text (length records)))
  pub shown : now ≡ put_both (first_line ++ text_of_lines lines) [] was

-- where the words are `explain FILE NAME ROWS`, and the files contain the predicate and records after the right header, their trace
-- came to Out
abbrev pub TracesExplain : List (List ℕ) → Shelf → Option Shown → Option Shown → Type 0
TracesExplain words shelf was now = WhereGiven words shelf command.Explain (λ g. (p : PredOf) (names : List (List ℕ)) (records : Records)
    → HasRecords g p names (names ∷ records) → PutTrace p records was now)
