-- The loop over lines of `check` in src/reading.rt.
use Rattle.std.proofs.Common.{length}
use Rattle.ln_base.proofs.Forms.Left.{SoFar}
use Rattle.ln_base.proofs.lines.reading.check.Given as goal

abbrev pub invariant-lines : goal.invariant-lines
invariant-lines g l = SoFar (g.G.Grammar.rules l.form) l.bytes l.state l.text l.number

abbrev pub decreases-lines : goal.decreases-lines
decreases-lines g l = length l.text
