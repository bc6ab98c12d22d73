-- Defines the lines that a panel writes for the watchers that were handed to it.
use Rattle.std.specs.Prelude.{◌≡◌, ℕ, ◌≤◌, List, [], ◌∷◌, ◌++◌, length, take, Option}
use Rattle.ln_base.specs.Outside.{Shown, appended}
use Rattle.ln_base.specs.declared.outside.Port.{Port}
use Rattle.ln_code.specs.declared.verdict.Verdict.{Verdict}
use Rattle.ln_watch.specs.declared.watch.Keep.{Keep}
use Rattle.ln_watch.specs.declared.watch.Keep.TheVariants.{Stay, Done}
use Rattle.ln_watch.specs.Fold.{tally_after, keep_after, watch_text}

-- a watcher, by its kind and its tally
pub record State : Type 0 where
  pub kind : ℕ
  pub tally : List ℕ

-- the verdict on the row with a number
pub record Numbered : Type 0 where
  pub row : ℕ
  pub verdict : Verdict

-- the states of a list of watchers
abbrev pub states_of : {B : Type 0} → (B → ℕ) → (B → List ℕ) → List B → List State
states_of kind tally [] = []
states_of kind tally (b ∷ bs) = record { kind = kind b; tally = tally b } ∷ states_of kind tally bs

-- a watcher after its step on the row with this number
abbrev pub state_after : ℕ → Verdict → State → State
state_after row v s = record { kind = s.kind; tally = tally_after s.kind s.tally row v }

-- whether it stays after that step
abbrev pub answer : ℕ → Verdict → State → Keep
answer row v s = keep_after s.kind s.tally row v

-- a line ends with a line feed
abbrev pub feed : List ℕ → List ℕ
feed text = text ++ 10 ∷ []

-- the line of a watcher: the text of its tally, and a line feed
abbrev pub line_of : State → List ℕ
line_of s = feed (watch_text s.kind s.tally)

-- what remains of a watcher that returned this: nothing where it is done, and else the watcher
abbrev pub left_of : Keep → State → List State
left_of Stay s = s ∷ []
left_of Done s = []

-- what is written for a watcher that returned this: its line where it is done, else nothing
abbrev pub said_of : Keep → State → List ℕ
said_of Stay s = []
said_of Done s = line_of s

-- the watchers that remain after a verdict, in order, each as it is after its step
abbrev pub left_after : ℕ → Verdict → List State → List State
left_after row v [] = []
left_after row v (s ∷ ss) = left_of (answer row v s) (state_after row v s) ++ left_after row v ss

-- the lines written for a verdict: that of each watcher that is done, in order
abbrev pub lines_at : ℕ → Verdict → List State → List ℕ
lines_at row v [] = []
lines_at row v (s ∷ ss) = said_of (answer row v s) (state_after row v s) ++ lines_at row v ss

-- the lines of the watchers that remain at the end, in order
abbrev pub last_lines : List State → List ℕ
last_lines [] = []
last_lines (s ∷ ss) = line_of s ++ last_lines ss

-- all lines of a panel over numbered verdicts
abbrev pub panel_lines : List Numbered → List State → List ℕ
panel_lines [] boxes = last_lines boxes
panel_lines (x ∷ xs) boxes = lines_at x.row x.verdict boxes ++ panel_lines xs (left_after x.row x.verdict boxes)

-- a write that failed: a prefix of the bytes was written
pub record FailsAfter (port : Port) (bytes : List ℕ) (was now : Option Shown) : Type 0 where
  pub n : ℕ
  pub within : n ≤ length bytes
  pub shown : now ≡ appended port (take n bytes) was

-- a write failed while the verdict on a row was shown: the watchers before one that was done have seen it, that one is dropped, a prefix of its line
-- was written after the lines of those before it, and the later ones haven't seen the verdict
pub record StopsAt (row : ℕ) (v : Verdict) (boxes left : List State) (port : Port) (was now : Option Shown) : Type 0 where
  pub seen : List State
  pub done : State
  pub later : List State
  pub boxes_are : boxes ≡ seen ++ done ∷ later
  pub is_done : answer row v done ≡ Done
  pub left_are : left ≡ left_after row v seen ++ later
  pub puts : FailsAfter port (line_of (state_after row v done)) (appended port (lines_at row v seen) was) now
