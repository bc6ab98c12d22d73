-- Why no trace is read.
use Rattle.std.specs.Prelude.{ℕ, List}
use Rattle.ln_base.specs.declared.lines.stop.TextStop.{TextStop}
use Rattle.ln_base.specs.declared.lines.stop.TextStop.TheVariants.{Form, NoMemory}
use Rattle.ln_trace.specs.declared.line.TraceLine.{TraceLine}
use Rattle.ln_trace.specs.Form.{IsFormFault, TraceText}

-- the bytes are no trace, and this is the first line at which they stop being one; or memory ran out
abbrev pub Stops : List ℕ → TextStop → Type 0
Stops bytes (Form at) = IsFormFault bytes at × ((ls : List TraceLine) → TraceText bytes ls → ⊥)
Stops bytes (NoMemory _) = Unit {0}
