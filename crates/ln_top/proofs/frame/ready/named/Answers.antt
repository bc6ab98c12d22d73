use Rattle.ln_compile.proofs.Numbers.{one_within}
use Rattle.ln_top.proofs.frame.ready.named.Goals as goal

pub accepted-requires : goal.accepted-requires
accepted-requires c =
    rw c.as_slice.ensures.value (one_within c.args.ready.now.compiled.table.preds _ _ c.requires.stands.stands.numbered c.requires.one)

pub returns : goal.returns
returns c = rw c.as_slice.ensures.value at c.accepted.ensures.pred
