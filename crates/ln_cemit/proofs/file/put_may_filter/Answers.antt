-- Answers to the goals of `put_may_filter` in src/file.rt.
use Rattle.std.proofs.lemmas.Result.{IfOk-weaker}
use Rattle.ln_cemit.specs.Whole.{part_name}
use Rattle.ln_cemit.proofs.Writing.Gathers.{tried_some}
use Rattle.ln_cemit.proofs.file.put_may_filter.Goals as goal

pub returns-in-Some : goal.returns-in-Some
returns-in-Some c = IfOk-weaker c.put_filter_try.result _ _ (λ _ p. tried_some c.name_of-name.result.now (part_name c.args.p.now)
    c.args.p.now.filter _ c.name_of-name.ensures (rw c.in-Some.is at c.filter.ensures.value) p) c.put_filter_try.ensures
