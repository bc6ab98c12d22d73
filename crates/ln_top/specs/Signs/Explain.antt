-- `explain FILE NAME ROWS`: a trace on Out, which is its first line and for each record after the header the lines that explain it.
use Rattle.std.specs.Prelude.{ℕ, List, [], codes, None}
use Rattle.ln_trace.specs.Signs.{Explains}
use Rattle.ln_trace.specs.Text.{first_line, text_of_lines}
use Rattle.ln_top.specs.Frame.Said.{Said}
use Rattle.ln_top.specs.Frame.Given.{Given}
use Rattle.ln_top.specs.Frame.Work.{Work}
use Rattle.ln_top.specs.Frame.Signature.{Signature}
use Rattle.ln_top.specs.declared.frame.asked.Asked.TheVariants.{Nothing}
use Rattle.ln_top.specs.Frame.Subject.{subject_of}
use Rattle.ln_top.specs.Signs.Rows.{LineOf, RowsPart, RowsSaid, SaysLine, rows_work}

-- the text of the lines that explain a record; watchers are shown nothing
abbrev pub ExplainLine : LineOf
ExplainLine p names number fields = SaysLine (Explains (subject_of p) number fields) (λ lines. None) text_of_lines

-- what is required: nothing comes to Err but the error line of a wrong header
abbrev pub ExplainSaid : Given → Said → Type 0
ExplainSaid g = RowsSaid first_line ExplainLine [] g

-- the part that may be left when memory runs out
abbrev pub ExplainPart : Given → List ℕ → List ℕ → Type 0
ExplainPart g = RowsPart first_line ExplainLine [] g

-- the signature of `explain`
abbrev pub explain_signature : Signature
explain_signature = record { word = codes "explain"; form = record { least = 1; most = 1; files = 1 }; suits = Nothing }

-- the work of `explain`
abbrev pub explain_work : Work
explain_work = rows_work first_line (λ preds. ExplainLine) (λ boxes. [])
