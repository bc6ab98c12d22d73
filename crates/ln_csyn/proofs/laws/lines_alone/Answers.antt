-- Answers to the goals of `lines_alone` in src/laws.rt.
use Rattle.ln_csyn.proofs.Writing.LinesLemmas.{flat_is_same, read_back}
use Rattle.ln_csyn.proofs.Writing.Calls.{lines_say_nothing}
use Rattle.ln_csyn.proofs.laws.lines_alone.Goals as goal

pub returns-clause-same : goal.returns-clause-same
returns-clause-same c = flat_is_same

pub returns-clause-back : goal.returns-clause-back
returns-clause-back c = read_back

pub returns-clause-calls : goal.returns-clause-calls
returns-clause-calls c = lines_say_nothing
