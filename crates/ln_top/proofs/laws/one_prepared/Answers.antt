use Rattle.ln_top.proofs.Steps.Chain.{one_prepares}
use Rattle.ln_top.proofs.laws.one_prepared.Goals as goal

pub returns : goal.returns
returns c = one_prepares
