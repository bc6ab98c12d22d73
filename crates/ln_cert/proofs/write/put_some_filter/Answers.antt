-- Answers to the goals of `put_some_filter` in src/write.rt.
use Rattle.std.proofs.lemmas.Result.{IfOk-weaker}
use Rattle.ln_cert.proofs.Writing.Programmed.{filter_each}
use Rattle.ln_cert.proofs.Writing.Wrote.{some_filter}
use Rattle.ln_cert.proofs.write.put_some_filter.Goals as goal

pub put_filter_lines-requires-clause-rules : goal.put_filter_lines-requires-clause-rules
put_filter_lines-requires-clause-rules c =
    rw (c.ops.ensures, c.triples-triples.ensures.value) (filter_each c.args.f.now c.requires c.triples-triples.ensures.kept)

pub returns-clause-wrote : goal.returns-clause-wrote
returns-clause-wrote c = IfOk-weaker c.put_decide.result _ _ (λ _ p. some_filter c.args.out.now.items c.put_filter_head.new.out.items
    c.put_filter_lines.new.out.items c.put_decide.new.out.items c.args.f.now c.ops.result.now c.triples-triples.result.now c.ops.ensures
    c.triples-triples.ensures.value c.in_ok-put_filter_head.ensures c.in_ok-put_filter_lines.ensures p) c.put_decide.ensures

pub returns-clause-shallow : goal.returns-clause-shallow
returns-clause-shallow c = IfOk-weaker c.put_decide.result _ _ (λ _ _. c.triples-triples.ensures.kept.shallow) c.put_decide.ensures
