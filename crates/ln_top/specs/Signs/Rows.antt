-- Work on the records of a rows file: what is written for each on Out, and what watchers write to Err. One definition for every command that writes lines
-- of records: a command says what a record's line is.
use Rattle.std.specs.Prelude.{◌≡◌, ℕ, List, ◌∷◌, ◌++◌, Option, ◌+◌}
use Rattle.ln_tree.specs.Table.{PredOf}
use Rattle.ln_code.specs.declared.verdict.Verdict.{Verdict}
use Rattle.ln_rows.specs.Left.{Records}
use Rattle.ln_watch.specs.Panel.{State}
use Rattle.ln_top.specs.declared.frame.stop.Why.TheVariants.{Header}
use Rattle.ln_top.specs.Frame.Said.{Said}
use Rattle.ln_top.specs.Frame.Stop.{said_of}
use Rattle.ln_top.specs.Frame.Given.{Given}
use Rattle.ln_top.specs.Target.Line.{is_row}
use Rattle.ln_top.specs.Frame.Lines.{Lines, all_good}
use Rattle.ln_top.specs.Signs.Run.{HasRecords, RunEnds, end_of}
use Rattle.ln_rows.specs.Header.{IsWrongHeader}
use Rattle.ln_top.specs.Frame.Work.{Work}
use Rattle.ln_top.specs.Signs.Watching.{Watching, watching, next_lines, next, last_of}

-- what a record's line is, for a predicate and the names of its columns: of the record with this number and these fields watchers are shown this
-- verdict, or none, and this text is written
abbrev pub LineOf : Type 1
LineOf = PredOf → List (List ℕ) → ℕ → List (List ℕ) → Option Verdict → List ℕ → Type 0

-- a line by what is said of its record, which is true of it: watchers are shown the verdict in that, or none, and the text is written that it has
pub record SaysLine {T : Type 0} (IsTrueOf : T → Type 0) (verdict_in : T → Option Verdict) (text_for : T → List ℕ) (shown : Option Verdict)
    (text : List ℕ) : Type 0 where
  pub said : T
  pub says : IsTrueOf said
  pub shows : shown ≡ verdict_in said
  pub is : text ≡ text_for said

-- what is written for a record: its line on Out, and on Err the lines of the watchers that are done after it
pub record RowStep (line : ℕ → List (List ℕ) → Option Verdict → List ℕ → Type 0)
    (before : Watching) (fields : List (List ℕ)) (out err : List ℕ) (after : Watching) : Type 0 where
  pub shown : Option Verdict
  pub is : line (before.seen + 1) fields shown out
  pub told : err ≡ next_lines shown before
  pub left : after ≡ next shown before

-- the first text, the lines of records, and at the end the lines of the remaining watchers
abbrev pub said_of_rows : List ℕ → PredOf → Records → List ℕ → List ℕ → Watching → Said
said_of_rows first p records out err z =
    record { end = end_of (all_good (is_row p) records); out = first ++ out; err = err ++ last_of z }

-- what is required: the error line of a wrong header; or after the header this first text and a line for each record, in order, and the lines of the
-- watchers, at the end those of the remaining watchers, also where records are refused
pub data RowsSaid (first : List ℕ) (line : LineOf) (boxes : List State) (g : Given) : Said → Type 0 where
  header : (p : PredOf) (names : List (List ℕ)) (records : Records)
      → HasRecords g p names records → IsWrongHeader names records → RowsSaid first line boxes g (said_of Header)
  ran : (p : PredOf) (names : List (List ℕ)) (records : Records) (out err : List ℕ) (z : Watching)
      → HasRecords g p names (names ∷ records) → Lines (RowStep (line p names)) (watching 0 boxes) records out err z
      → RowsSaid first line boxes g (said_of_rows first p records out err z)

-- the part that may be left when memory runs out: the first text and the whole lines of the first records
pub data RowsPart (first : List ℕ) (line : LineOf) (boxes : List State) (g : Given) (out err : List ℕ) : Type 0 where
  begun : (p : PredOf) (names : List (List ℕ)) (done left : Records) (lines : List ℕ) (z : Watching)
      → HasRecords g p names (names ∷ done ++ left) → Lines (RowStep (line p names)) (watching 0 boxes) done lines err z
      → out ≡ first ++ lines → RowsPart first line boxes g out err

-- the work of a command that writes lines of records: the first text, the line of a record by the predicates, and the watchers that see the records
abbrev pub rows_work : List ℕ → (List PredOf → LineOf) → (List State → List State) → Work
rows_work first line seers = record {
  owes = λ boxes g. RowsSaid first (line g.preds) (seers boxes) g;
  part = λ boxes g. RowsPart first (line g.preds) (seers boxes) g;
  ends = RunEnds;
  one = Unit {0};
}
