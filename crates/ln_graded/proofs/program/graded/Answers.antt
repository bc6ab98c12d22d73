use Rattle.std.proofs.lemmas.Result.{IfOk-weaker}
use Rattle.ln_graded.proofs.Joining.{can-begin, same-graded, some-block}
use Rattle.ln_graded.proofs.program.graded.Goals as goal

pub first_block-requires : goal.first_block-requires
first_block-requires c = some-block c.args.s.now c.args.f.now c.args.p.now c.requires.begins

pub graded_from-requires-clause-begins : goal.graded_from-requires-clause-begins
graded_from-requires-clause-begins c =
    let e = c.in_ok-first.ensures in
    rw c.in_ok-filter.ensures (can-begin c.args.s.now c.args.f.now c.args.p.now c.in_ok-first.first c.requires.begins e.first e.kept)

pub returns-clause-program : goal.returns-clause-program
returns-clause-program c = IfOk-weaker c.graded_from.result _ _ (λ q g. same-graded c.args.s.now c.args.f.now c.args.p.now q _ _
    c.in_ok-filter.ensures c.in_ok-first.ensures.first g) c.graded_from.ensures.program
