-- Defines what is judged of the lines of a trace.
use Rattle.std.specs.Prelude.{◌≡◌, ℕ, List, length, Option, Some, None}
use Rattle.ln_rows.specs.Left.{Records}
use Rattle.ln_trace.specs.declared.judged.Judged.{Judged}
use Rattle.ln_trace.specs.declared.judged.Judged.TheVariants.{Agreed, Wrong}
use Rattle.ln_trace.specs.declared.line.TraceLine.{TraceLine}
use Rattle.ln_trace.specs.Judge.{IsAgreed, IsFirstFault}
use Rattle.ln_trace.specs.Trace.{Subject}

-- the first line that fails, if there is one
abbrev pub fault_of : Judged → Option ℕ
fault_of (Agreed n) = None
fault_of (Wrong n) = Some n

-- no line fails, and this many records were read; or this is the first line that fails
abbrev pub IsJudged : Subject → Records → List TraceLine → Judged → Type 0
IsJudged s records lines (Agreed n) = IsAgreed s records lines × (n ≡ length records)
IsJudged s records lines (Wrong n) = IsFirstFault s records lines n
