use Rattle.std.proofs.Common.{arith}
use Rattle.ln_code.proofs.Engines.Quotients.{far_error}
use Rattle.ln_code.proofs.halving.error_after.Goals as goal

pub returns-else-e-eq0-clause-value : goal.returns-else-e-eq0-clause-value
returns-else-e-eq0-clause-value c = far_error 64 c.args.n c.args.e (omega arith) (omega arith) (omega arith) c.if-e-eq0.false
