-- Defines what watchers see of a record and what is written for it.
use Rattle.std.specs.Prelude.{ℕ, List, [], Option, Some, None, ◌+◌}
use Rattle.ln_code.specs.declared.verdict.Verdict.{Verdict}
use Rattle.ln_watch.specs.Panel.{State, left_after, lines_at, last_lines}

-- how many records have come, and the remaining watchers
pub record Watching : Type 0 where
  pub seen : ℕ
  pub boxes : List State

-- this many records have come, and these watchers remain
abbrev pub watching : ℕ → List State → Watching
watching seen boxes = record { seen = seen; boxes = boxes }

-- the lines written for the record with this number: on a verdict those of the watchers that are done; a refused record is shown to no watcher
abbrev pub told_on : ℕ → Option Verdict → List State → List ℕ
told_on row (Some v) boxes = lines_at row v boxes
told_on row None boxes = []

-- and the remaining watchers
abbrev pub left_on : ℕ → Option Verdict → List State → List State
left_on row (Some v) boxes = left_after row v boxes
left_on row None boxes = boxes

-- the record with the next number
abbrev pub next_lines : Option Verdict → Watching → List ℕ
next_lines shown w = told_on (w.seen + 1) shown w.boxes

-- the number of records and the remaining watchers after that record
abbrev pub next : Option Verdict → Watching → Watching
next shown w = watching (w.seen + 1) (left_on (w.seen + 1) shown w.boxes)

-- at the end, the lines of the remaining watchers
abbrev pub last_of : Watching → List ℕ
last_of w = last_lines w.boxes
