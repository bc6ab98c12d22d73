use Rattle.ln_code.proofs.Verdicts.Machine.{lists-stages}
use Rattle.ln_code.proofs.laws.lists_are_stage_lists.Goals as goal

pub returns : goal.returns
returns c = lists-stages
