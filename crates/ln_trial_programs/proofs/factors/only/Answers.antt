-- Answers to the goals of `only` in src/factors.rt.
use Rattle.std.proofs.Common.{rules}
use Rattle.ln_trial_programs.proofs.OneProgram.{one_item, one_program}
use Rattle.ln_trial_programs.proofs.factors.only.Goals as goal

pub returns-in-len1-len1 : goal.returns-in-len1-len1
returns-in-len1-len1 c =
    let preds = one_item c.args.c.now.table.preds c.pred-item.result (search rules) (search rules) in
    let programs = one_item c.args.c.now.programs c.program-item.result (search rules) (search rules) in
    let o = one_program _ _ _ _ preds programs c.programs.ensures.kept in
    (programs, o.0, o.1)
