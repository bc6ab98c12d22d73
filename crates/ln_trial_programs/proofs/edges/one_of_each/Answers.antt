-- Answers to the goals of `one_of_each` in src/edges.rt.
use Rattle.std.proofs.Common.{rules}
use Rattle.ln_trial_programs.proofs.OneProgram.{one_item, one_program}
use Rattle.ln_trial_programs.proofs.edges.one_of_each.Goals as goal

pub returns-in-len1-len1-len1 : goal.returns-in-len1-len1-len1
returns-in-len1-len1-len1 c =
    let sites = one_item c.args.c.now.table.sites c.site-item.result (search rules) (search rules) in
    let preds = one_item c.args.c.now.table.preds c.pred-item.result (search rules) (search rules) in
    let programs = one_item c.args.c.now.programs c.program-item.result (search rules) (search rules) in
    let o = one_program _ _ _ _ preds programs c.programs.ensures.kept in
    (sites, preds, o.0, o.1)
