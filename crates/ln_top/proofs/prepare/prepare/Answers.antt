use Rattle.ln_top.specs.Plan.{with_bytes}
use Rattle.ln_top.proofs.Steps.Prepared.{file_stops, compiler_stops, is_ready}
use Rattle.ln_top.proofs.prepare.prepare.Goals as goal

pub returns-in-Err-clause-err : goal.returns-in-Err-clause-err
returns-in-Err-clause-err g c = file_stops (with_bytes c.args.plan) (g.F.Files.told c.args.files.now) _ _ c.in-Err.ensures.err

pub returns-in-Err-compiled-clause-err : goal.returns-in-Err-compiled-clause-err
returns-in-Err-compiled-clause-err g c =
    compiler_stops (with_bytes c.args.plan) (g.F.Files.told c.args.files.now) _ _ _ c.in-Ok.ensures.ok
    (rw c.deref.ensures.value at c.in-Err-compiled.ensures.err)

pub returns-in-Ok-later-clause-ok : goal.returns-in-Ok-later-clause-ok
returns-in-Ok-later-clause-ok g c =
    let n = c.in-Ok-later.ensures.found in
    is_ready (with_bytes c.args.plan) (g.F.Files.told c.args.files.now) _ _ c.in-Ok.ensures.ok
    (rw c.deref.ensures.value at c.in-Ok-compiled.ensures.ok) n (c.in-Ok-later.ensures.asked n.preds n.numbered)
    (rw c.file.ensures.told at c.in-Ok-later.ensures.read)
