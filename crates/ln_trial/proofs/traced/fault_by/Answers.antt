use Rattle.ln_tree.specs.Table.{pred_of}
use Rattle.ln_stage.proofs.Accepting.{light-whole}
use Rattle.ln_trial.proofs.traced.fault_by.Goals as goal

pub judge-requires : goal.judge-requires
judge-requires c =
    let a = c.args.a.now in let k = c.pred.ensures.kept in let e = k.expanded in
    rw (c.pred.ensures.value, c.poly.ensures, c.stages.ensures) (record {
      below = e.normal.below;
      light = light-whole (pred_of a.pred) a.poly e.sound e.normal;
      stages = k.stages;
    })
