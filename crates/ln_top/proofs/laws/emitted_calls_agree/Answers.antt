use Rattle.ln_top.proofs.AgreeLaws.{meanings_agree, programs_agree}
use Rattle.ln_top.proofs.laws.emitted_calls_agree.Goals as goal

pub returns-clause-meanings : goal.returns-clause-meanings
returns-clause-meanings c = meanings_agree

pub returns-clause-programs : goal.returns-clause-programs
returns-clause-programs c = programs_agree
