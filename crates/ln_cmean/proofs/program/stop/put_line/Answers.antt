use Rattle.std.proofs.Common.{ap, sym, ◌∙◌, ◌++◌, [], ◌∷◌}
use Rattle.std.proofs.lemmas.Result.{on_ok_weaker}
use Rattle.std.specs.Prelude.{codes}
use Rattle.ln_base.specs.Outside.{appended}
use Rattle.ln_base.specs.declared.outside.Port.TheVariants.{Err as ErrPort}
use Rattle.ln_cmean.specs.Carrying.Stops.{stop_line}
use Rattle.ln_cmean.proofs.Carrying.CallLaws.{three_puts}
use Rattle.ln_cmean.proofs.program.stop.put_line.Goals as goal

pub returns-in_ok-put_all-in-Call-2-clause-ok : goal.returns-in_ok-put_all-in-Call-2-clause-ok
returns-in_ok-put_all-in-Call-2-clause-ok g c =
    let digits = c.as_bytes.ensures.value ∙ c.format.ensures.text in
    let line = ap stop_line c.in-Call.is ∙ ap (λ x. codes "error call " ++ (x ++ (10 ∷ []))) (sym digits) in
    on_ok_weaker c.put_all-in-Call-3.result (λ p. three_puts ErrPort _ _ _ _ _ _ _ c.in_ok-put_all-in-Call.ensures.ok
    c.in_ok-put_all-in-Call-2.ensures.ok p ∙ (λ i. appended ErrPort (sym line i) (g.C.Console.shown c.args.con.now))) c.put_all-in-Call-3.ensures.ok

pub returns-in-Read-clause-ok : goal.returns-in-Read-clause-ok
returns-in-Read-clause-ok g c = on_ok_weaker c.put_all-in-Read.result
    (λ p. p ∙ (λ i. appended ErrPort (sym (ap stop_line c.in-Read.is) i) (g.C.Console.shown c.args.con.now))) c.put_all-in-Read.ensures.ok

pub returns-in-Long-clause-ok : goal.returns-in-Long-clause-ok
returns-in-Long-clause-ok g c = on_ok_weaker c.put_all-in-Long.result
    (λ p. p ∙ (λ i. appended ErrPort (sym (ap stop_line c.in-Long.is) i) (g.C.Console.shown c.args.con.now))) c.put_all-in-Long.ensures.ok
