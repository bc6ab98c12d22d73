use Rattle.ln_factor.proofs.SeveralLemmas.{signs-multiply}
use Rattle.ln_factor.proofs.laws.signs_multiply.Goals as goal

pub returns : goal.returns
returns c = signs-multiply
