-- The loop over lines of `entries_of` in src/read.rt.
use Rattle.std.proofs.Common.{length}
use Rattle.ln_cert.proofs.Reading.Whole.{Gathered}
use Rattle.ln_cert.proofs.read.entries_of.Given as goal

abbrev pub invariant-lines : goal.invariant-lines
invariant-lines l = Gathered l.initial.lines l.lines l.entries.items

abbrev pub decreases-lines : goal.decreases-lines
decreases-lines l = length l.lines.text
