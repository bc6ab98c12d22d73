use Rattle.std.proofs.Common.{rules}
use Rattle.ln_top.specs.Target.Target.{pred_in}
use Rattle.ln_top.proofs.FrameLemmas.LinesLaws.{running_puts, running_tears, running_done}
use Rattle.ln_top.proofs.SignsLemmas.GenLaws.{none_made, draws_more, draws_none}
use Rattle.ln_top.proofs.signs.generate.put_rows.Goals as goal

pub rows-init : goal.rows-init
rows-init g c = (none_made (pred_in c.args.target.now) _ _ _ _ _, c.requires.made, search rules)

pub returns-then-not-put_row : goal.returns-then-not-put_row
returns-then-not-put_row g c =
    running_tears c.rows.invariant.0 (draws_more _ _ _ _ _ (search rules) (search rules)) c.if-not-put_row.ensures.puts

pub rows-preserved : goal.rows-preserved
rows-preserved g c = (
  running_puts c.rows.invariant.0 (rw c.put_row.ensures.past (draws_more _ _ _ _ _ (search rules) (search rules)))
      c.if-not-put_row.ensures.puts,
  c.put_row.ensures.made,
  search rules,
)

pub returns : goal.returns
returns g c = running_done c.rows.invariant.0 (draws_none _ _ _ _ (search rules))
