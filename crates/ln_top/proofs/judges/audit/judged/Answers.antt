use Rattle.ln_tree.specs.Table.{pred_of}
use Rattle.ln_stage.proofs.Accepting.{light-whole}
use Rattle.ln_top.proofs.JudgesLemmas.AuditLaws.{judged_of, then_both}
use Rattle.ln_top.proofs.FrameLemmas.Lightness.{light_by}
use Rattle.ln_top.proofs.judges.audit.judged.Goals as goal

pub returns : goal.returns
returns c =
    let e = c.pred.ensures.kept.expanded in let a = c.args.a.now in
    rw (← c.pred.ensures.value) (then_both c.judge_lines.result _ _ _ (λ j h k. judged_of c.pred.result.now _ _ _ j
    (light_by c.pred.result.now (rw c.pred.ensures.value e.sound.light)).inputs (rw (c.pred.ensures.value, c.poly.ensures) e.normal) h k)
    c.judge_lines.ensures.answer c.judge_lines.ensures.count)

pub judge_lines-requires-clause-case : goal.judge_lines-requires-clause-case
judge_lines-requires-clause-case c =
    let a = c.args.a.now in let k = c.pred.ensures.kept in let e = k.expanded in
    rw (c.pred.ensures.value, c.poly.ensures, c.stages.ensures) (record {
      below = e.normal.below;
      light = light-whole (pred_of a.pred) a.poly e.sound e.normal;
      stages = k.stages;
    })
