use Rattle.ln_syntax.specs.Raw.{items}
use Rattle.ln_names.specs.Visits.{arg_visits}
use Rattle.ln_names.proofs.Walking.{Left}
use Rattle.ln_names.proofs.walk.args_fault.Given as goal

abbrev pub invariant-loop-i : goal.invariant-loop-i
invariant-loop-i l = Left l.bytes (arg_visits (items l.its)) l.args l.i
