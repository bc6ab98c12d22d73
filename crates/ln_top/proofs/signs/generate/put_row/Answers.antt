use Rattle.ln_top.proofs.SignsLemmas.GenLaws.{row_put}
use Rattle.ln_top.proofs.signs.generate.put_row.Goals as goal

pub returns-clause-puts : goal.returns-clause-puts
returns-clause-puts g c =
    let row = rw c.pred.ensures at c.gen_row-row.ensures.row in
    let due = rw c.requires.rank at c.verdict-v.ensures.due in
    row_put {p = c.args.target.now.pred} (record { row = row; due = due }) c.show.ensures.wrote c.show.ensures.left
