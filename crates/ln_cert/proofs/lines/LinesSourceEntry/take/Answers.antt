-- Answers to the goals of `take` of `Lines` in src/lines.rt.
use Rattle.std.proofs.lemmas.Result.{IfOk-weaker}
use Rattle.ln_cert.proofs.Reading.Whole.{takes_entry}
use Rattle.ln_cert.proofs.lines.LinesSourceEntry.take.Goals as goal

pub returns : goal.returns
returns c = IfOk-weaker c.next.result _ _ (λ o t. takes_entry c.args.self.now c.next.new.self o t) c.next.ensures.takes
