use Rattle.ln_top.proofs.SignsLemmas.BoxLemmas.{on_err}
use Rattle.ln_top.proofs.SignsLemmas.PutLemmas.{fails_first, fails_second, puts_second}
use Rattle.ln_top.proofs.signs.panel.put_fed.Goals as goal

pub returns-clause-ok : goal.returns-clause-ok
returns-clause-ok g c = puts_second _ _ _ _ _ _ _ c.in_ok-put_all.ensures.ok c.put_all-2.ensures.ok

pub returns-clause-err : goal.returns-clause-err
returns-clause-err g c = fails_second _ _ _ _ _ _ _ c.in_ok-put_all.ensures.ok c.put_all-2.ensures.err

pub returns-in_err-put_all-clause-err : goal.returns-in_err-put_all-clause-err
returns-in_err-put_all-clause-err g c =
    let f = c.in_err-put_all.ensures.err in on_err _ (fails_first _ _ _ _ _ (record { n = f.0; within = f.1; shown = f.2 }))

pub returns-clause-later : goal.returns-clause-later
returns-clause-later g c = rw c.in_ok-put_all.ensures.fine at c.put_all-2.ensures.later

pub returns-clause-cause : goal.returns-clause-cause
returns-clause-cause g c = rw c.in_ok-put_all.ensures.fine at c.put_all-2.ensures.cause

pub returns-clause-step : goal.returns-clause-step
returns-clause-step g c = rw c.in_ok-put_all.ensures.fine at c.put_all-2.ensures.step

pub returns-clause-fine : goal.returns-clause-fine
returns-clause-fine g c = rw c.in_ok-put_all.ensures.fine at c.put_all-2.ensures.fine
