use Rattle.std.proofs.Common.{ap, sym}
use Rattle.ln_tree.specs.Table.{PredOf}
use Rattle.ln_compile.proofs.Numbers.{same_at}
use Rattle.ln_top.proofs.signs.graded.name_at.Goals as goal

pub returns : goal.returns
returns c = λ p e. ap (λ (q : PredOf). q.at) (sym (same_at c.args.c.now.table.preds c.args.i _ p c.pred.ensures e))
