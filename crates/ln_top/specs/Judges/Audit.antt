-- `audit FILE NAME ROWS TRACE`: whether a trace, whoever made it, is agreed by the predicate and the records of the rows file.
use Rattle.std.specs.Prelude.{◌≡◌, ℕ, List, [], ◌∷◌, ◌++◌, length, codes, decimal, Option, Result, Ok, Err}
use Rattle.ln_base.specs.Outside.{Shown, refused}
use Rattle.ln_tree.specs.Table.{PredOf}
use Rattle.ln_rows.specs.Left.{Records, records_in}
use Rattle.ln_trace.specs.declared.line.TraceLine.{TraceLine}
use Rattle.ln_trace.specs.Judge.{IsAgreed, IsFirstFault}
use Rattle.ln_trace.specs.Form.{IsFormFault, TraceText}
use Rattle.ln_trace.specs.declared.judged.Judged.{Judged}
use Rattle.ln_trace.specs.declared.judged.Judged.TheVariants.{Agreed, Wrong}
use Rattle.ln_trace.specs.Judged.{IsJudged}
use Rattle.ln_trace.specs.Unread.{AreLeft, Unread}
use Rattle.ln_top.specs.declared.frame.status.End.{End}
use Rattle.ln_top.specs.declared.frame.status.End.TheVariants.{Done, Invalid, Rows}
use Rattle.ln_top.specs.declared.frame.status.Early.{Early}
use Rattle.ln_top.specs.declared.frame.status.Early.TheVariants.{Memory, Write}
use Rattle.ln_top.specs.declared.frame.stop.Why.TheVariants.{Header}
use Rattle.ln_rows.specs.Header.{columns_of}
use Rattle.ln_top.specs.Frame.Subject.{subject_of}
use Rattle.ln_rows.specs.Header.{IsWrongHeader}
use Rattle.ln_top.specs.Frame.Said.{Count, Said, Writes, line, whole}
use Rattle.ln_top.specs.Frame.Given.{Given}
use Rattle.ln_top.specs.Frame.Stop.{said_of}
use Rattle.ln_top.specs.Frame.Carried.{NoPart}
use Rattle.ln_top.specs.Frame.Work.{Work}
use Rattle.ln_top.specs.Frame.Signature.{Signature}
use Rattle.ln_top.specs.declared.frame.asked.Asked.TheVariants.{Nothing}

-- the predicate, the names of its columns, the records of the rows file, and the bytes of the trace
pub record HasTrace (g : Given) (p : PredOf) (names : List (List ℕ)) (records : Records) (trace : List ℕ) : Type 0 where
  pub others : List PredOf
  pub pred : g.preds ≡ p ∷ others
  pub columns : names ≡ columns_of g.table p
  pub rows : List ℕ
  pub texts : g.texts ≡ rows ∷ trace ∷ []
  pub are : records_in rows ≡ records

-- the first line at which the trace has a form fault or, if it has none, fails a rule
pub data IsWrongAt (p : PredOf) (records : Records) (trace : List ℕ) (at : ℕ) : Type 0 where
  form : IsFormFault trace at → IsWrongAt p records trace at
  rule : (lines : List TraceLine) → TraceText trace lines → IsFirstFault (subject_of p) records lines at → IsWrongAt p records trace at

-- it is the text of a trace that is agreed
pub record IsRightTrace (p : PredOf) (records : Records) (trace : List ℕ) : Type 0 where
  pub lines : List TraceLine
  pub text : TraceText trace lines
  pub agreed : IsAgreed (subject_of p) records lines

-- the line `agreed N`, for a trace that is agreed over N records
abbrev pub agreed_text : ℕ → List ℕ
agreed_text n = line (codes "agreed " ++ decimal n)

-- the line `wrong N`, for a trace whose line N is the first that fails
abbrev pub wrong_text : ℕ → List ℕ
wrong_text n = line (codes "wrong " ++ decimal n)

-- what is required: the error line of a wrong header; `agreed` with the number of records after it; or `wrong` with the line
pub data AuditSaid (g : Given) : Said → Type 0 where
  header : (p : PredOf) (names : List (List ℕ)) (records : Records) (trace : List ℕ)
      → HasTrace g p names records trace → IsWrongHeader names records → AuditSaid g (said_of Header)
  agreed : (p : PredOf) (names : List (List ℕ)) (records : Records) (trace : List ℕ)
      → HasTrace g p names (names ∷ records) trace → IsRightTrace p records trace
      → AuditSaid g (whole Done (agreed_text (length records)))
  wrong : (p : PredOf) (names : List (List ℕ)) (records : Records) (trace : List ℕ) (at : ℕ)
      → HasTrace g p names (names ∷ records) trace → IsWrongAt p records trace at → AuditSaid g (whole Invalid (wrong_text at))

-- how it ends, and where
pub data AuditEnds (g : Given) : End → Type 0 where
  header : (p : PredOf) (names : List (List ℕ)) (records : Records) (trace : List ℕ)
      → HasTrace g p names records trace → IsWrongHeader names records → AuditEnds g Rows
  agreed : (p : PredOf) (names : List (List ℕ)) (records : Records) (trace : List ℕ)
      → HasTrace g p names (names ∷ records) trace → IsRightTrace p records trace → AuditEnds g Done
  wrong : (p : PredOf) (names : List (List ℕ)) (records : Records) (trace : List ℕ) (at : ℕ)
      → HasTrace g p names (names ∷ records) trace → IsWrongAt p records trace at → AuditEnds g Invalid

-- ---- in memory
-- what is judged of the remaining lines
abbrev pub AreJudged : PredOf → Records → Unread → Judged → Type 0
AreJudged p records u j = (lines : List TraceLine) → AreLeft u lines → IsJudged (subject_of p) records lines j

-- what is judged of a trace
abbrev pub IsAuditOf : PredOf → Records → List ℕ → Judged → Type 0
IsAuditOf p records trace (Agreed n) = IsRightTrace p records trace × (n ≡ length records)
IsAuditOf p records trace (Wrong at) = IsWrongAt p records trace at

-- a text was written or cut off; or memory ran out before
abbrev pub PutsOrStops : List ℕ → End → Count → Result End Early → Option Shown → Option Shown → Type 0
PutsOrStops text end = Writes text [] (λ result. result ≡ Ok end) (λ result. result ≡ Err Write) (λ result. result ≡ Err (Memory refused))

-- the signature of `audit`
abbrev pub audit_signature : Signature
audit_signature = record { word = codes "audit"; form = record { least = 1; most = 1; files = 2 }; suits = Nothing }

-- the work of `audit`
abbrev pub audit_work : Work
audit_work = record { owes = λ boxes. AuditSaid; part = λ boxes g. NoPart; ends = AuditEnds; one = Unit {0} }
