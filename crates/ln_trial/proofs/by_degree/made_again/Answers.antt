use Rattle.ln_tree.specs.Table.{pred_of}
use Rattle.ln_compile.proofs.Numbers.{number_at}
use Rattle.ln_trial.proofs.Graded as law
use Rattle.ln_trial.proofs.by_degree.made_again.Goals as goal

pub graded-requires-clause-poly : goal.graded-requires-clause-poly
graded-requires-clause-poly c =
    let a = c.accepted-a.result in let k = c.accepted-a.ensures in
    rw (c.shape.ensures, c.poly.ensures) (law.gradable a k.kept c.in_ok-p.p
    (c.in_ok-p.ensures.program (pred_of a.pred) (number_at c.args.c.now.table.preds c.args.i a.pred k.pred)))

pub graded-requires-clause-begins : goal.graded-requires-clause-begins
graded-requires-clause-begins c =
    let a = c.accepted-a.result in let k = c.accepted-a.ensures in
    rw (c.shape.ensures, c.poly.ensures) (law.begins a k.kept c.in_ok-p.p
    (c.in_ok-p.ensures.program (pred_of a.pred) (number_at c.args.c.now.table.preds c.args.i a.pred k.pred)))
