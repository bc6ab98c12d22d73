use Rattle.ln_compile.proofs.Numbers.{one_within, one_numbered}
use Rattle.ln_top.proofs.SignsLemmas.NamedLaws.{given_by}
use Rattle.ln_top.proofs.signs.named.one_target.Goals as goal

pub graded-requires-clause-within : goal.graded-requires-clause-within
graded-requires-clause-within c =
    rw c.as_slice.ensures.value (one_within c.args.ready.now.compiled.table.preds _ _ c.requires.stands.stands.numbered
    c.requires.one)

pub graded-requires-clause-answers : goal.graded-requires-clause-answers
graded-requires-clause-answers c = λ p. rw c.as_slice.ensures.value ((rw c.in-Some.is at c.requires.kept) p)

pub new-requires : goal.new-requires
new-requires c =
    rw c.as_slice.ensures.value (one_within c.args.ready.now.compiled.table.preds _ _ c.requires.stands.stands.numbered
    c.requires.one)

pub returns-in-Some-clause-given : goal.returns-in-Some-clause-given
returns-in-Some-clause-given c given = λ s.
    let preds = one_numbered c.args.ready.now.compiled.table.preds _ _ c.graded.result.pred s.numbered c.requires.one
    (rw c.as_slice.ensures.value at c.graded.ensures.pred) in
    given_by given c.graded.result c.args.ready.now.compiled.table s.table preds c.graded.ensures.names

pub returns-in_ok-target-in-None-clause-given : goal.returns-in_ok-target-in-None-clause-given
returns-in_ok-target-in-None-clause-given c given = λ s.
    let preds = one_numbered c.args.ready.now.compiled.table.preds _ _ c.in_ok-target-in-None.target.pred s.numbered c.requires.one
    (rw c.as_slice.ensures.value at c.in_ok-target-in-None.ensures.pred) in
    given_by given c.in_ok-target-in-None.target c.args.ready.now.compiled.table s.table preds c.in_ok-target-in-None.ensures.names
