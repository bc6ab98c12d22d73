use Rattle.ln_top.proofs.Theorem.ByValueLaws.{by_value}
use Rattle.ln_top.proofs.laws.values_decide.Goals as goal

pub returns : goal.returns
returns c = by_value
