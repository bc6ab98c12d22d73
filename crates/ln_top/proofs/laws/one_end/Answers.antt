use Rattle.ln_top.proofs.Steps.TopLaws.{one_end}
use Rattle.ln_top.proofs.laws.one_end.Goals as goal

pub returns : goal.returns
returns c = one_end
