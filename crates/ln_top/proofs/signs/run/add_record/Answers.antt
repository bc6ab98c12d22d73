use Rattle.std.proofs.Common.{◌∙◌, sym, true≢false}
use Rattle.ln_top.specs.Target.Target.{pred_in}
use Rattle.ln_top.proofs.SignsLemmas.OneLine.{bare_same}
use Rattle.ln_top.proofs.signs.run.add_record.Goals as goal

pub returns-in_err-add_line-clause-steady : goal.returns-in_err-add_line-clause-steady
returns-in_err-add_line-clause-steady c fields r t =
    absurd (true≢false (sym (rw c.in_err-add_line.was at (c.add_line.ensures.steady
    (bare_same (pred_in c.args.target.now) fields (c.verdict_of-said.ensures.says fields r) ∙ t)))))
