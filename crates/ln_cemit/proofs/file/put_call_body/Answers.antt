-- Answers to the goals of `put_call_body` in src/file.rt.
use Rattle.std.proofs.lemmas.Result.{IfOk-weaker}
use Rattle.std.proofs.Common.{rules, ap}
use Rattle.ln_tree.specs.declared.shape.Shape.{Shape}
use Rattle.ln_cemit.proofs.Writing.Loops.{call_put}
use Rattle.ln_cemit.proofs.file.put_call_body.Goals as goal

pub returns : goal.returns
returns c = IfOk-weaker c.put_all_sites.result _ _ (λ _ p. call_put c.args.p.now c.shape.result.now.sites _ (ap (λ (s : Shape). s.sites) c.shape.ensures)
    (search rules) c.in_ok-put_may_touch_index.ensures c.in_ok-put_may_filter.ensures p) c.put_all_sites.ensures
