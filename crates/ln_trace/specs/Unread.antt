-- Defines a trace that is read line by line: what remains after some lines.
use Rattle.std.specs.Prelude.{◌≡◌, ℕ, List, Option}
use Rattle.ln_base.specs.Forms.Unread as rest
use Rattle.ln_trace.specs.declared.line.TraceLine.{TraceLine}
use Rattle.ln_trace.specs.declared.state.State.{State}
use Rattle.ln_trace.specs.Form.{TraceText}
use Rattle.ln_trace.specs.Reading.{trace_rules}

-- a trace after some of its lines: what those lines end in, the number of the next line, and the text from there on
abbrev pub Unread : Type 0
Unread = rest.Unread State

-- the text is these lines, and with them the trace ends
abbrev pub AreLeft : Unread → List TraceLine → Type 0
AreLeft u ls = rest.AreLeft trace_rules u ls

-- some lines remain, few enough that each has a number
abbrev pub IsUnread : Unread → Type 0
IsUnread u = rest.IsUnread trace_rules u

-- the bytes are a trace, of which all lines but the first remain
pub record IsOpened (bytes : List ℕ) (u : Unread) : Type 0 where
  pub read : List TraceLine
  pub trace : TraceText bytes read
  pub left : AreLeft u read
  pub second : u.line ≡ 2

-- the first of the lines that remain is taken
abbrev pub IsTaken : Unread → TraceLine → Unread → Type 0
IsTaken u l w = rest.IsTaken trace_rules u l w

-- the first line is taken if there is one; else none remains, before and after
abbrev pub Takes : Unread → Option TraceLine → Unread → Type 0
Takes u o w = rest.Takes trace_rules u o w
