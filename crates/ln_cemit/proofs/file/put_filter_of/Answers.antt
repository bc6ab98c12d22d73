-- Answers to the goals of `put_filter_of` in src/file.rt.
use Rattle.std.proofs.lemmas.Result.{IfOk-weaker}
use Rattle.ln_cemit.specs.Whole.{part_name}
use Rattle.ln_cemit.proofs.Writing.Gathers.{filter_none, filter_some}
use Rattle.ln_cemit.proofs.file.put_filter_of.Goals as goal

pub returns-in-Some-clause-put : goal.returns-in-Some-clause-put
returns-in-Some-clause-put c = IfOk-weaker c.put_filter.result _ _ (λ _ p. filter_some c.name_of-name.result.now (part_name c.args.p.now)
    c.args.p.now.filter c.in-Some.filter.now c.name_of-name.ensures (rw c.in-Some.is at c.filter.ensures.value) p) c.put_filter.ensures

pub returns-in-Some-clause-kept : goal.returns-in-Some-clause-kept
returns-in-Some-clause-kept c = IfOk-weaker c.put_filter.result _ _ (λ _ _. c.filter.ensures.kept) c.put_filter.ensures

pub returns-in-None-clause-put : goal.returns-in-None-clause-put
returns-in-None-clause-put c = filter_none (part_name c.args.p.now) c.args.p.now.filter (rw c.in-None.is at c.filter.ensures.value)

pub returns-in-None-clause-kept : goal.returns-in-None-clause-kept
returns-in-None-clause-kept c = c.filter.ensures.kept
