use Rattle.ln_code.proofs.Building.Walks.{puts_variable}
use Rattle.ln_code.proofs.walk.put_input.Goals as goal

pub returns : goal.returns
returns g c = puts_variable c.input.result c.left.result c.requires.is.2 c.input.ensures.value c.left.ensures c.in_ok-b.ensures
