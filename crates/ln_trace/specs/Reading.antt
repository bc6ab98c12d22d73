-- Defines which line is allowed where, and what its words say: for the reader, which goes line by line.
-- The lemmas of proofs/Reading/Whole prove that this is the grammar.
use Rattle.std.specs.Prelude.{◌≡◌, ℕ, Bool, true, false, if◌then◌else◌, List, ◌∷◌, Option, Some, None, bytes_eq, codes}
use Rattle.ln_base.specs.Forms.Form.{Rules}
use Rattle.ln_base.specs.Forms.Form as form
use Rattle.ln_trace.specs.declared.line.TraceLine.{TraceLine}
use Rattle.ln_trace.specs.declared.line.TraceLine.TheVariants as line
use Rattle.ln_trace.specs.declared.state.Kind.{Kind}
use Rattle.ln_trace.specs.declared.state.Kind.TheVariants as kind
use Rattle.ln_trace.specs.declared.state.State.{State}
use Rattle.ln_trace.specs.declared.state.State.TheVariants.{Between, Opened, Within}
use Rattle.ln_trace.specs.Text.{IsLine, first_line, words_of}

-- ---- kinds
-- the kind of a line
abbrev pub line_kind : TraceLine → Kind
line_kind (line.Refused n) = kind.Refused
line_kind (line.Row n) = kind.Row
line_kind (line.At exps z) = kind.At
line_kind (line.Sign t) = kind.Sign

-- the first word of a line
abbrev pub word_of : Kind → List ℕ
word_of kind.Refused = codes "refused"
word_of kind.Row = codes "row"
word_of kind.At = codes "at"
word_of kind.Sign = codes "sign"

-- the kind of the line that begins with this word, in this state; none where no line does
abbrev pub kind_in : State → List ℕ → Option Kind
kind_in Between w = if bytes_eq w (codes "refused") then Some kind.Refused else if bytes_eq w (codes "row") then Some kind.Row else None
kind_in Opened w = if bytes_eq w (codes "at") then Some kind.At else None
kind_in Within w = if bytes_eq w (codes "at") then Some kind.At else if bytes_eq w (codes "sign") then Some kind.Sign else None

-- ---- states
-- a line of this kind is allowed in this state
abbrev pub may : State → Kind → Bool
may Between kind.Refused = true
may Between kind.Row = true
may Opened kind.At = true
may Within kind.At = true
may Within kind.Sign = true
may s k = false

-- what the lines end in after a line of this kind
abbrev pub after : Kind → State
after kind.Refused = Between
after kind.Row = Opened
after kind.At = Within
after kind.Sign = Between

-- the state that this line leads to, where it may come in this state
abbrev pub next_of : State → TraceLine → Option State
next_of s l = if may s (line_kind l) then Some (after (line_kind l)) else None

-- the form of traces, as the reader of lines takes it
abbrev pub trace_rules : Rules State TraceLine
trace_rules = record { first = first_line; words_of = words_of; IsLine = IsLine; next_of = next_of; start = Between }

-- where lines lead
abbrev pub goes : Option State → List TraceLine → Option State
goes o ls = form.goes trace_rules o ls

-- ---- lines
-- the words are this line, which is allowed in the state and leads to the next
abbrev pub IsRead : State → List (List ℕ) → TraceLine → State → Type 0
IsRead s ws l t = form.IsRead trace_rules s ws l t

-- no line of these words is allowed in the state
abbrev pub Refuses : State → List (List ℕ) → Type 0
Refuses s ws = form.Refuses trace_rules s ws

-- the words follow the first word of this line of a kind
pub record HasArgs (k : Kind) (ws : List (List ℕ)) (l : TraceLine) : Type 0 where
  pub kind : line_kind l ≡ k
  pub words : word_of k ∷ ws ≡ words_of l
  pub range : IsLine l

-- the words follow the first word of no line of this kind
abbrev pub NoArgs : Kind → List (List ℕ) → Type 0
NoArgs k ws = (l : TraceLine) → HasArgs k ws l → ⊥
