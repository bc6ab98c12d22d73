-- The form of traces, and the first line of a text at which it stops being a trace.
use Rattle.std.specs.Prelude.{◌≡◌, ℕ, ℤ, ◌≤◌, List, [], ◌∷◌, length, map}
use Rattle.ln_base.specs.Limits.{most_file}
use Rattle.ln_base.specs.Exponents.{Each}
use Rattle.ln_base.specs.Lines.{joined}
use Rattle.ln_base.specs.declared.sign.Sign.{Sign}
use Rattle.ln_base.specs.Forms.Fault.{IsFaultOf}
use Rattle.ln_trace.specs.declared.line.TraceLine.{TraceLine}
use Rattle.ln_trace.specs.declared.line.TraceLine.TheVariants.{Refused, Row, At}
use Rattle.ln_trace.specs.declared.line.TraceLine.TheVariants as line
use Rattle.ln_trace.specs.Text.{IsLine, first_line, text_of_line}

-- ---- the grammar
-- one or more `at` lines: they are in the first list and not in the second
pub data SomeAts : List TraceLine → List TraceLine → Type 0 where
  last : {exps : List (ℕ × ℕ)} {z : ℤ} {r : List TraceLine} → SomeAts (At exps z ∷ r) r
  more : {exps : List (ℕ × ℕ)} {z : ℤ} {xs r : List TraceLine} → SomeAts xs r → SomeAts (At exps z ∷ xs) r

-- any number of records: `refused`, or `row`, one or more `at` lines and `sign`
pub data WholeRecords : List TraceLine → Type 0 where
  none : WholeRecords []
  refused : {n : ℕ} {r : List TraceLine} → WholeRecords r → WholeRecords (Refused n ∷ r)
  row : {n : ℕ} {xs r : List TraceLine} {t : Sign} → SomeAts xs (line.Sign t ∷ r) → WholeRecords r → WholeRecords (Row n ∷ xs)

-- ---- the text
-- the lines of a trace, as texts
abbrev pub texts_of : List TraceLine → List (List ℕ)
texts_of ls = first_line ∷ map text_of_line ls

-- a trace: what its lines say after the first one
pub record IsTrace (ls : List TraceLine) : Type 0 where
  pub form : WholeRecords ls
  pub ranges : Each IsLine ls

-- the bytes are the text of this trace
pub record TraceText (bytes : List ℕ) (ls : List TraceLine) : Type 0 where
  pub trace : IsTrace ls
  pub text : bytes ≡ joined (texts_of ls)

-- some bytes, at most 67,108,864, are the text of this trace
pub record IsKept (ls : List TraceLine) : Type 0 where
  pub bytes : List ℕ
  pub short : length bytes ≤ most_file
  pub text : TraceText bytes ls

-- ---- form faults
-- these lines are all of a trace
pub record IsWhole (texts : List (List ℕ)) : Type 0 where
  pub read : List TraceLine
  pub trace : IsTrace read
  pub same : texts ≡ texts_of read

-- line `at`, from 1, is the first at which the lines so far are no prefix of a trace; where all lines are one and the bytes are
-- no trace, it is one more than there are lines
abbrev pub IsFormFault : List ℕ → ℕ → Type 0
IsFormFault bytes at = IsFaultOf IsWhole bytes at
