use Rattle.ln_cmean.proofs.Runs.{on_ok, same_then}
use Rattle.ln_cmean.proofs.expr.+value.Goals as goal

pub value-returns-else-not-same_kind-clause-same : goal.value-returns-else-not-same_kind-clause-same
value-returns-else-not-same_kind-clause-same g t c =
    on_ok c.operate.result (same_then c.args.s.now c.value.new.s c.value-in-Two.new.s c.in-Ok.ensures.same c.in-Ok-value.ensures.same)
