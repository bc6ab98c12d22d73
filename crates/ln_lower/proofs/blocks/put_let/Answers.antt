use Rattle.std.proofs.Common.{refl}
use Rattle.ln_bound.specs.View.{typed}
use Rattle.ln_lower.proofs.Operations.Writes.{ok_then, let_put}
use Rattle.ln_lower.proofs.blocks.put_let.Goals as goal

pub returns : goal.returns
returns c = ok_then c.push.result _ _ c.push.ensures.ok (λ q. let_put _ _ c.put_tree.new.draft _ (typed c.args.u.now) c.args.j _ c.nothing.result
    c.nothing.ensures c.in_ok-put_tree.ensures q refl)
