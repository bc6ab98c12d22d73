use Rattle.std.proofs.Common.{ap}
use Rattle.std.proofs.lemmas.Option.{slice_get-get_or}
use Rattle.ln_tree.specs.Table.{PredOf}
use Rattle.ln_compile.proofs.Numbers.{same_at}
use Rattle.ln_top.proofs.target.alike.args_at.Goals as goal

pub returns : goal.returns
returns c = λ p e. rw c.as_slice.ensures (ap (λ (q : PredOf). q.args) (same_at c.args.preds.now _ _ p (slice_get-get_or _ _ _ c.requires) e))
