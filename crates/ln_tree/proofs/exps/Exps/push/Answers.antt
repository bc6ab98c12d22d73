use Rattle.ln_tree.proofs.Pairs.{rising-push}
use Rattle.ln_tree.proofs.exps.Exps.push.Goals as goal

pub invariant_of-self-2 : goal.invariant_of-self-2
invariant_of-self-2 c = rw c.in_ok-push.ensures.ok
    (rising-push _ _ _ c.self.invariant (rw (← c.self.view_is) at c.requires.above) c.requires.positive c.requires.small)
