-- Answers to the goals of `put_program` in src/file.rt.
use Rattle.std.proofs.lemmas.Result.{IfOk-weaker}
use Rattle.ln_cemit.proofs.Writing.Whole.{one_for_every_row}
use Rattle.ln_cemit.proofs.file.put_program.Goals as goal

pub returns-clause-ok : goal.returns-clause-ok
returns-clause-ok c = IfOk-weaker c.put_program_as.result _ _ (λ _ f. one_for_every_row c.args.out.now.items c.put_program_as.new.out.items c.args.p.now f)
    c.put_program_as.ensures.ok
