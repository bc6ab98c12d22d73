-- Answers to the goals of `put_body` in src/body.rt.
use Rattle.std.proofs.lemmas.Result.{IfOk-weaker}
use Rattle.ln_cemit.proofs.Writing.Loops.{body_put}
use Rattle.ln_cemit.proofs.body.put_body.Goals as goal

pub returns : goal.returns
returns c = IfOk-weaker c.put_lines.result _ _ (λ _ p. body_put c.reads_row-reads.result c.args.e c.args.ops.now c.args.ways.now
    c.reads_row-reads.ensures c.requires c.in_ok-put_may_touch.ensures p) c.put_lines.ensures
