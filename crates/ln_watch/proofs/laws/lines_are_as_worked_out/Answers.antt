use Rattle.std.specs.Fmt.{digits}
use Rattle.std.proofs.Common.{refl}
use Rattle.ln_watch.proofs.laws.lines_are_as_worked_out.Goals as goal

pub returns-clause-five : goal.returns-clause-five
unfolding digits
returns-clause-five c = refl

pub returns-clause-three : goal.returns-clause-three
unfolding digits
returns-clause-three c = refl
