use Rattle.std.proofs.lemmas.Result.{IfOk-weaker}
use Rattle.ln_compile.specs.Compiled.{IsProgramOf}
use Rattle.ln_compile.proofs.Numbers.{holds_at}
use Rattle.ln_compile.proofs.checked.Checked.program.Goals as goal

pub returns-clause-program : goal.returns-clause-program
returns-clause-program c = IfOk-weaker c.program.result _ _ (λ program h.
    holds_at (λ p. IsProgramOf p program) c.args.self.now.table.preds c.args.i c.accepted.result.pred c.accepted.ensures.pred h) c.program.ensures.program
