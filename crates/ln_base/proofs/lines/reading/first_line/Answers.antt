-- Answers to the goals of `first_line` in src/reading.rt.
use Rattle.std.proofs.Common.{arith}
use Rattle.ln_base.proofs.Forms.Left.{first_of, no_first}
use Rattle.ln_base.proofs.lines.reading.first_line.Goals as goal

pub returns-then-end-text : goal.returns-then-end-text
returns-then-end-text c = no_first c.args.text.now c.find-end.result c.find-end.ensures.place c.if-end-text.true

pub returns : goal.returns
returns c = first_of c.args.text.now c.find-end.result c.between.result.now c.find-end.ensures.place (omega arith) c.between.ensures
