use Rattle.ln_top.proofs.SignsLemmas.GradedLaws.{can_begin, gradable, programs_at, short_stops, stops_at}
use Rattle.ln_top.proofs.signs.graded.graded_program.Goals as goal

pub graded_from-requires-clause-poly : goal.graded_from-requires-clause-poly
graded_from-requires-clause-poly c = gradable c.args.c.now.table.preds c.args.i c.pred.result.now c.pred.ensures c.in_ok-f.f
    c.in_ok-begin.begin.0 c.in_ok-begin.begin.1 c.in_ok-f.ensures c.in_ok-begin.ensures

pub graded_from-requires-clause-begins : goal.graded_from-requires-clause-begins
graded_from-requires-clause-begins c = can_begin c.args.c.now.table.preds c.args.i c.pred.result.now c.pred.ensures c.in_ok-f.f
    c.in_ok-begin.begin.0 c.in_ok-begin.begin.1 c.in_ok-f.ensures c.in_ok-begin.ensures

pub returns-clause-program : goal.returns-clause-program
returns-clause-program c = programs_at c.args.c.now.table.preds c.args.i c.pred.result.now c.pred.ensures c.in_ok-f.f
    c.in_ok-begin.begin.0 c.in_ok-begin.begin.1 c.in_ok-f.ensures c.in_ok-begin.ensures _ c.graded_from.ensures.program c.graded_from.ensures.within

pub returns-clause-err : goal.returns-clause-err
returns-clause-err c = stops_at c.args.c.now.table.preds c.args.i c.pred.result.now c.pred.ensures c.in_ok-f.f
    c.in_ok-begin.begin.0 c.in_ok-begin.begin.1 c.in_ok-f.ensures c.in_ok-begin.ensures _ c.graded_from.ensures.err

pub returns-in_err-f-clause-err : goal.returns-in_err-f-clause-err
returns-in_err-f-clause-err c = short_stops c.from_residual.result _ c.from_residual.ensures.1

pub returns-in_err-begin-clause-err : goal.returns-in_err-begin-clause-err
returns-in_err-begin-clause-err c = short_stops c.from_residual-in_err-begin.result _ c.from_residual-in_err-begin.ensures.1
