use Rattle.std.proofs.Common.{ap, Err}
use Rattle.ln_top.specs.Plan.{with_bytes}
use Rattle.ln_top.proofs.Steps.Prepared.{names_stop, suits_stop, files_stop}
use Rattle.ln_compile.proofs.Numbers.{numbers_within}
use Rattle.ln_top.proofs.Steps.TopLaws.{err_same}
use Rattle.ln_top.proofs.prepare.later.Goals as goal

pub returns-in-Err-clause-err : goal.returns-in-Err-clause-err
returns-in-Err-clause-err g c =
    names_stop (with_bytes c.args.plan) (g.F.Files.told c.args.files.now) _ _ _ _ c.requires.read c.requires.compiles c.in-Err.ensures.err

pub suited-requires-clause-within : goal.suited-requires-clause-within
suited-requires-clause-within g c =
    rw c.deref.ensures.value (numbers_within c.args.c.now.table.preds _ _ c.in-Ok.ensures.ok.numbered)

pub returns-in-Err-suited-clause-err : goal.returns-in-Err-suited-clause-err
returns-in-Err-suited-clause-err g c =
    let n = c.in-Ok.ensures.ok in
    suits_stop (with_bytes c.args.plan) (g.F.Files.told c.args.files.now) _ _ n.preds _ _ c.requires.read c.requires.compiles n.found
    ((rw (c.deref.ensures.value, c.asked.ensures) at c.in-Err-suited.ensures.err) n.preds n.numbered)

pub returns-in-Err-texts-clause-err : goal.returns-in-Err-texts-clause-err
returns-in-Err-texts-clause-err g c =
    let n = c.in-Ok.ensures.ok in
    files_stop (with_bytes c.args.plan) (g.F.Files.told c.args.files.now) _ _ n.preds _ _ c.requires.read c.requires.compiles n.found
    ((rw (c.deref.ensures.value, c.asked.ensures) at c.in-Ok-suited.ensures.ok) n.preds n.numbered) c.in-Err-texts.ensures.err

pub returns-in-Err-texts-clause-quiet : goal.returns-in-Err-texts-clause-quiet
returns-in-Err-texts-clause-quiet g c n = c.in-Err-texts.ensures.quiet (λ e. n (ap Err (err_same e)))

pub returns-in-Ok-texts-clause-asked : goal.returns-in-Ok-texts-clause-asked
returns-in-Ok-texts-clause-asked g c = rw (c.deref.ensures.value, c.asked.ensures) at c.in-Ok-suited.ensures.ok

pub returns-in-Ok-texts-clause-kept : goal.returns-in-Ok-texts-clause-kept
returns-in-Ok-texts-clause-kept g c = rw (c.deref.ensures.value, c.asked.ensures) at c.in-Ok-suited.ensures.kept
