use Rattle.ln_syntax.proofs.Recognising.Either.{either_place}
use Rattle.ln_syntax.proofs.Recognising.Fault.{one_place, no_text}
use Rattle.ln_syntax.proofs.place.one_place.Goals as goal

pub returns-clause-place : goal.returns-clause-place
returns-clause-place c = one_place

pub returns-clause-none : goal.returns-clause-none
returns-clause-none c = no_text

pub returns-clause-either : goal.returns-clause-either
returns-clause-either c = either_place
