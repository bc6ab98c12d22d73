use Rattle.ln_parse.specs.Says.{param_of, param_said}
use Rattle.ln_parse.proofs.Building.Said.{SaidOn}
use Rattle.ln_parse.proofs.build.params.Given as goal

abbrev pub invariant-items : goal.invariant-items
invariant-items l = SaidOn (param_said l.bytes) param_of l.its l.it-index l.params
