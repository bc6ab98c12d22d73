-- Answers to the goals of `take` of `TraceLines` in src/lines.rt.
use Rattle.std.proofs.lemmas.Result.{IfOk-weaker}
use Rattle.ln_trace.proofs.Walking.{takes-line}
use Rattle.ln_trace.proofs.lines.TraceLinesSourceTraceLine.take.Goals as goal

pub returns : goal.returns
returns c = IfOk-weaker c.next.result _ _ (λ o t. takes-line c.args.self.now c.next.new.self o t) c.next.ensures.takes
