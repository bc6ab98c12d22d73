use Rattle.ln_cmean.proofs.Carrying.LineLaws.{one_call}
use Rattle.ln_cmean.proofs.program.laws.one_call.Goals as goal

pub returns : goal.returns
returns c = one_call
