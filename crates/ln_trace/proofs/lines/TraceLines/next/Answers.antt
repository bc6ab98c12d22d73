-- Answers to the goals of `TraceLines::next` in src/lines.rt.
use Rattle.ln_trace.proofs.Reading.OneLine.{trace_sound}
use Rattle.ln_trace.proofs.lines.TraceLines.next.Goals as goal

pub next-requires-clause-sound : goal.next-requires-clause-sound
next-requires-clause-sound c = trace_sound
