-- Answers to the goals of `made_of` in src/by_degree.rt.
use Rattle.ln_top.proofs.SignsLemmas.GradedLaws.{can_begin, gradable}
use Rattle.ln_trial.proofs.by_degree.made_of.Goals as goal

pub graded_from-requires-clause-poly : goal.graded_from-requires-clause-poly
graded_from-requires-clause-poly c = gradable c.args.c.now.table.preds c.args.i c.pred.result.now c.pred.ensures c.in_ok-f.f
    c.in_ok-begin.begin.0 c.in_ok-begin.begin.1 c.in_ok-f.ensures c.in_ok-begin.ensures

pub graded_from-requires-clause-begins : goal.graded_from-requires-clause-begins
graded_from-requires-clause-begins c = can_begin c.args.c.now.table.preds c.args.i c.pred.result.now c.pred.ensures c.in_ok-f.f
    c.in_ok-begin.begin.0 c.in_ok-begin.begin.1 c.in_ok-f.ensures c.in_ok-begin.ensures
