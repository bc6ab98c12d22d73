-- `run FILE NAME ROWS`: a line on Out for each record after the header, and the watchers' lines on Err. `graded FILE NAME ROWS` is the
-- same in the other order of infinitesimals, without watchers.
use Rattle.std.specs.Prelude.{ℕ, List, [], All, Option, Some, None, Result, Ok, Err}
use Rattle.ln_algebra.specs.Orders.{ByDegree, BySmallest, Rank}
use Rattle.ln_code.specs.declared.verdict.Verdict.{Verdict}
use Rattle.ln_rows.specs.declared.record.RowStop.{RowStop}
use Rattle.ln_watch.specs.Panel.{State}
use Rattle.ln_top.specs.Frame.Said.{Said, line}
use Rattle.ln_top.specs.Frame.Given.{Given}
use Rattle.ln_top.specs.Target.Line.{Says, said_text}
use Rattle.ln_top.specs.Target.Target.{HasProgram}
use Rattle.ln_top.specs.Signs.Rows.{LineOf, RowsPart, RowsSaid, SaysLine, rows_work}
use Rattle.ln_top.specs.Frame.Work.{Work, work_by}

-- watchers are shown the verdict on a row, and nothing of a record that is refused
abbrev pub shown_of : Result Verdict RowStop → Option Verdict
shown_of (Ok v) = Some v
shown_of (Err stop) = None

-- the line of a record of one predicate, in an order of infinitesimals
abbrev pub RunLine : Rank → LineOf
RunLine rank p names number fields = SaysLine (Says rank p fields) shown_of (λ said. line (said_text names said))

-- what is required in an order of infinitesimals
abbrev pub RunSaid : Rank → List State → Given → Said → Type 0
RunSaid rank = RowsSaid [] (RunLine rank)

-- the part that may be left when memory runs out
abbrev pub RunPart : Rank → List State → Given → List ℕ → List ℕ → Type 0
RunPart rank = RowsPart [] (RunLine rank)

-- the work of `run`
abbrev pub run_work : Work
run_work = rows_work [] (λ preds. RunLine BySmallest) (λ boxes. boxes)

-- what is required by total degree first: the lines, by a program of the predicate in that order
abbrev pub GradedSaid : Given → Said → Type 0
GradedSaid g said = RunSaid ByDegree [] g said × All (HasProgram ByDegree) g.preds

-- the work of `graded`
abbrev pub graded_work : Work
graded_work = work_by (All (HasProgram ByDegree)) (rows_work [] (λ preds. RunLine ByDegree) (λ boxes. []))
