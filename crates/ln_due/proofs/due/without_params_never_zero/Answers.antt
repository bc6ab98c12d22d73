use Rattle.ln_due.proofs.Verdicts.UniqueLemmas.{never-zero}
use Rattle.ln_due.proofs.due.without_params_never_zero.Goals as goal

pub returns : goal.returns
returns c = never-zero
