-- The loop over lines of `all_lines` in src/read.rt.
use Rattle.std.proofs.Common.{length}
use Rattle.ln_base.proofs.Forms.Left.{Gathered}
use Rattle.ln_trace.specs.Reading.{trace_rules}
use Rattle.ln_trace.proofs.read.all_lines.Given as goal

abbrev pub invariant-lines : goal.invariant-lines
invariant-lines l = Gathered trace_rules trace_rules l.initial.lines l.lines l.read.items

abbrev pub decreases-lines : goal.decreases-lines
decreases-lines l = length l.lines.text
