-- Answers to the goals of `all_lines` in src/read.rt.
use Rattle.std.proofs.Common.{rules}
use Rattle.ln_base.proofs.Forms.Left.{gathered_more}
use Rattle.ln_trace.specs.Reading.{trace_rules}
use Rattle.ln_trace.specs.Unread.{IsTaken}
use Rattle.ln_trace.proofs.read.all_lines.Goals as goal

pub lines-preserved : goal.lines-preserved
lines-preserved c =
    let t : IsTaken c.lines.lines c.in-Some.line c.next.new.self = rw c.in-Some.is at c.in_ok-line.ensures.takes in
    gathered_more trace_rules trace_rules trace_rules c.args.lines.now c.lines.lines c.next.new.self c.lines.read.items c.push.new.self.items
    c.in-Some.line c.lines.invariant t.goes_on (search rules)
