use Rattle.ln_compile.proofs.Refusing.Staying.{stays-accepted, stays-sound}
use Rattle.ln_compile.proofs.Refusing.TextFits.{text-fits}
use Rattle.ln_compile.proofs.laws.what_was_accepted_stays_accepted.Goals as goal

pub returns-clause-source : goal.returns-clause-source
returns-clause-source c = stays-accepted

pub returns-clause-pred : goal.returns-clause-pred
returns-clause-pred c = stays-sound

pub returns-clause-fit : goal.returns-clause-fit
returns-clause-fit c = text-fits
