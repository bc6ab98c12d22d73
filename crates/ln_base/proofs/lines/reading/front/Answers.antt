-- Answers to the goals of `front` in src/reading.rt.
use Rattle.std.proofs.Common.{arith}
use Rattle.ln_base.proofs.Forms.Left.{begins, none_here, none_open}
use Rattle.ln_base.proofs.lines.reading.front.Goals as goal

pub returns-then-end-text : goal.returns-then-end-text
returns-then-end-text g c = none_open _ c.args.state c.args.text.now c.find-end.result c.requires.some c.find-end.ensures.place c.if-end-text.true

pub returns-in_default : goal.returns-in_default
returns-in_default g c = none_here _ c.requires.sound c.args.state c.args.text.now c.find-end.result c.between.result.now c.requires.some
    c.find-end.ensures.place (omega arith) c.between.ensures (rw c.in_default.is at c.in_ok-read.ensures)

pub returns : goal.returns
returns g c = begins _ c.args.state c.args.text.now c.find-end.result c.between.result.now c.in-Some.line c.in-Some.next c.requires.some
    c.find-end.ensures.place (omega arith) c.between.ensures (rw c.in-Some.is at c.in_ok-read.ensures)
