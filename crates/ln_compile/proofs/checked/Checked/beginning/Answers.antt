use Rattle.std.proofs.lemmas.Result.{IfOk-weaker}
use Rattle.ln_compile.specs.Compiled.{IsBeginningOf}
use Rattle.ln_compile.proofs.Numbers.{holds_at}
use Rattle.ln_compile.proofs.checked.Checked.beginning.Goals as goal

pub beginning-requires : goal.beginning-requires
beginning-requires c = rw c.pred.ensures.value c.pred.ensures.kept.expanded.sound

pub returns : goal.returns
returns c = IfOk-weaker c.beginning.result _ _ (λ b h.
    holds_at (λ p. IsBeginningOf p b.0 b.1) c.args.self.now.table.preds c.args.i c.accepted.result.pred c.accepted.ensures.pred h)
    (rw c.pred.ensures.value at c.beginning.ensures)
