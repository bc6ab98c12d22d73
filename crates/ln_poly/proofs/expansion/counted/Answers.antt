use Rattle.std.proofs.Common.{length, sym, ◌∙◌}
use Rattle.ln_bound.proofs.Soundness.WidthLaws.{lt_test}
use Rattle.ln_poly.proofs.TermLists.Counting.{counted-few, counted-many, few_test}
use Rattle.ln_poly.proofs.expansion.counted.Goals as goal

pub returns-then-are_many-clause-err : goal.returns-then-are_many-clause-err
returns-then-are_many-clause-err c = λ n e p. counted-many n c.args.at e c.args.f (rw (← c.terms.ensures.value)
    (lt_test 1024 (length c.terms.result.now) (sym c.are_many.ensures ∙ c.if-are_many.true))) p

pub returns-clause-ok : goal.returns-clause-ok
returns-clause-ok c = λ n e p. counted-few n c.args.at e c.args.f (rw (← c.terms.ensures.value)
    (few_test (length c.terms.result.now) (sym c.are_many.ensures ∙ c.if-are_many.false))) p
