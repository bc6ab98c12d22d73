-- Answers to the goals of `entries_of` in src/read.rt.
use Rattle.std.proofs.Common.{rules}
use Rattle.ln_cert.proofs.Reading.Whole.{gathered_more}
use Rattle.ln_cert.proofs.read.entries_of.Goals as goal

pub lines-preserved : goal.lines-preserved
lines-preserved c = gathered_more c.args.lines.now c.lines.lines c.next.new.self c.lines.entries.items c.push.new.self.items c.in-Some.entry
    c.lines.invariant (rw c.in-Some.is at c.in_ok-entry.ensures.takes) (search rules)
