-- Defines how the program ends, and the bytes on both streams.
use Rattle.std.specs.Prelude.{◌≡◌, ℕ, List, [], ◌∷◌, ◌++◌, Option, Result, Ok, Err}
use Rattle.ln_base.specs.Outside.{Shown, counted, appended}
use Rattle.ln_base.specs.declared.outside.Port.TheVariants.{Out, Err as ErrPort}
use Rattle.ln_base.specs.Prefixes.{IsPrefix}
use Rattle.ln_top.specs.declared.frame.status.End.{End}
use Rattle.ln_top.specs.declared.frame.status.End.TheVariants as end
use Rattle.ln_top.specs.declared.frame.status.Early.{Early}
use Rattle.ln_top.specs.declared.frame.status.Early.TheVariants as early
use Rattle.ln_top.specs.declared.frame.status.Status.{Status}
use Rattle.ln_top.specs.declared.frame.status.Status.TheVariants as status

-- a line ends with a line feed
abbrev pub line : List ℕ → List ℕ
line text = text ++ 10 ∷ []

-- an end that is required, and the bytes on each stream
pub record Said : Type 0 where
  pub end : End
  pub out : List ℕ
  pub err : List ℕ

-- an error line alone
abbrev pub error_line : End → List ℕ → Said
error_line end text = record { end = end; out = []; err = line text }

-- a whole text on Out
abbrev pub whole : End → List ℕ → Said
whole end text = record { end = end; out = text; err = [] }

-- these bytes came to both streams
abbrev pub put_both : List ℕ → List ℕ → Option Shown → Option Shown
put_both out err was = appended ErrPort err (appended Out out was)

-- the status of an end: the one table that names all of them
abbrev pub end_status : End → Status
end_status end.Done = status.Done
end_status end.Refused = status.Refused
end_status end.Usage = status.Usage
end_status end.Rows = status.Rows
end_status end.NoPredicate = status.NoPredicate
end_status end.Invalid = status.Invalid
end_status end.TooLong = status.TooLong
end_status end.Shape = status.Shape
end_status end.Many = status.Many

-- the status of an early stop: a fault of reading, a fault of writing, or a failed allocation
abbrev pub early_status : Early → Status
early_status early.Read = status.Read
early_status early.Write = status.Write
early_status (early.Memory m) = status.Memory m

-- the status of a result, which is an end or an early stop
abbrev pub status_of : Result End Early → Status
status_of (Ok e) = end_status e
status_of (Err e) = early_status e

-- the exit code of a status
abbrev pub code_of : Status → ℕ
code_of status.Done = 0
code_of status.Refused = 1
code_of status.Usage = 2
code_of status.Rows = 3
code_of status.NoPredicate = 4
code_of status.Invalid = 5
code_of status.Read = 6
code_of status.Write = 7
code_of status.TooLong = 8
code_of (status.Memory m) = 9
code_of status.Shape = 10
code_of status.Many = 11

-- a count of faults, before and after
pub record Count : Type 0 where
  pub before : ℕ
  pub after : ℕ

-- the count of faults with these values before and after
abbrev pub count : ℕ → ℕ → Count
count before after = record { before = before; after = after }

-- what a call made of the console is in this relation: its count of faults, the call's result, and what came to both streams
abbrev pub OnConsole : {A R : Type 0} → (A → ℕ) → (A → Option Shown) → A → R → A
    → (Count → R → Option Shown → Option Shown → Type 0) → Type 0
OnConsole faults shown was result now did = did (count (faults was) (faults now)) result (shown was) (shown now)

-- one fault was counted
abbrev pub Rises : Count → Type 0
Rises c = c.after ≡ counted c.before

-- none was
abbrev pub IsCalm : Count → Type 0
IsCalm c = c.after ≡ c.before

-- prefixes of these came to both streams
pub record PutsFronts (out err : List ℕ) (was now : Option Shown) : Type 0 where
  pub o : List ℕ
  pub e : List ℕ
  pub of_out : IsPrefix out o
  pub of_err : IsPrefix err e
  pub shown : now ≡ put_both o e was

-- what a call writes to both streams, by its result: all of this; or a fault of writing cut it off; or it stopped before the first byte
pub data Writes {R : Type 0} (out err : List ℕ) (all torn stopped : R → Type 0) (puts : Count) (result : R) (was now : Option Shown) : Type 0 where
  wrote : IsCalm puts → all result → now ≡ put_both out err was → Writes out err all torn stopped puts result was now
  broke : torn result → Rises puts → PutsFronts out err was now → Writes out err all torn stopped puts result was now
  stayed : IsCalm puts → stopped result → now ≡ was → Writes out err all torn stopped puts result was now
