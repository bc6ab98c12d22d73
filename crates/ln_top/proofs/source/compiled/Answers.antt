use Rattle.ln_top.proofs.Steps.SourceLaws.{accepted_source, refused_stop}
use Rattle.ln_top.proofs.source.compiled.Goals as goal

pub returns-in-Ok-clause-ok : goal.returns-in-Ok-clause-ok
returns-in-Ok-clause-ok c = accepted_source c.args.bytes.now c.in-Ok.c.table c.in-Ok.ensures.ok

pub returns-in-Err-clause-err : goal.returns-in-Err-clause-err
returns-in-Err-clause-err c = rw c.stop_for.ensures (refused_stop c.args.bytes.now _ c.in-Err.ensures.err)
