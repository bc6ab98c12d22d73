use Rattle.ln_compile.proofs.Refusing.FaultlessLemmas.{faultless-accepted}
use Rattle.ln_compile.proofs.Refusing.OneRefusal.{accepted_alone, refused_one}
use Rattle.ln_compile.proofs.laws.one_refusal.Goals as goal

pub returns-clause-one : goal.returns-clause-one
returns-clause-one c = refused_one

pub returns-clause-not_both : goal.returns-clause-not_both
returns-clause-not_both c = accepted_alone

pub returns-clause-either : goal.returns-clause-either
returns-clause-either c = faultless-accepted
