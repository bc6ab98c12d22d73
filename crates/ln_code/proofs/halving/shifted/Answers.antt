use Rattle.std.proofs.Common.{arith, sym}
use Rattle.ln_code.proofs.Engines.Quotients.{far}
use Rattle.ln_code.proofs.halving.shifted.Goals as goal

pub returns-else-n-lt128 : goal.returns-else-n-lt128
returns-else-n-lt128 c = sym (far 128 c.args.n c.args.h (omega arith) (omega arith))
