use Rattle.ln_syntax.proofs.Recognising.Either.{either_depth}
use Rattle.ln_syntax.proofs.nesting.one_depth.Goals as goal

pub returns-clause-either : goal.returns-clause-either
returns-clause-either c = either_depth
