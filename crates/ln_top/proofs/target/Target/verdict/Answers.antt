use Rattle.ln_top.proofs.TargetLemmas.TargetLaws.{answer_due, row_for}
use Rattle.ln_top.proofs.target.Target.verdict.Goals as goal

pub run_row-requires-clause-row : goal.run_row-requires-clause-row
run_row-requires-clause-row c =
    rw c.deref.ensures (row_for _ _ _ c.args.row.now c.self.invariant (rw (← c.self.view_is) at c.requires.range))

pub returns-clause-due : goal.returns-clause-due
returns-clause-due c =
    rw (← c.self.view_is) (answer_due _ _ _ c.args.row.now _ c.self.invariant
    (rw (← c.self.view_is) at c.requires.range) (rw c.deref.ensures at c.run_row.ensures.verdict))
