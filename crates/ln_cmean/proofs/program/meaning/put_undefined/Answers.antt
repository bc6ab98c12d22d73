use Rattle.std.proofs.lemmas.Result.{IfOk-weaker}
use Rattle.std.specs.Prelude.{codes}
use Rattle.ln_cmean.proofs.Carrying.CallLaws.{one_number}
use Rattle.ln_cmean.proofs.program.meaning.put_undefined.Goals as goal

pub returns : goal.returns
returns c = IfOk-weaker c.put_number.result _ _ (λ _ p. one_number c.args.out.now.items c.put.new.out.items c.put_number.new.out.items
    (codes "undefined") c.from.result c.args.line c.in_ok-put.ensures p c.from.ensures) c.put_number.ensures
