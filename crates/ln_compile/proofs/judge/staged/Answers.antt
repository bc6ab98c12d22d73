use Rattle.std.proofs.Common.{length}
use Rattle.ln_tree.specs.Table.{pred_of}
use Rattle.ln_stage.specs.Staged.{vectors_of}
use Rattle.ln_compile.proofs.Refusing.Judging.{zero_stops}
use Rattle.ln_compile.proofs.Listing.StagingLemmas.{sound_pred, stages_stops, within-limits}
use Rattle.ln_compile.proofs.judge.staged.Goals as goal

pub returns-in-Ok-clause-sound : goal.returns-in-Ok-clause-sound
returns-in-Ok-clause-sound c =
    let p = c.args.p.now in
    let e = c.in-Ok.ensures in
    sound_pred (pred_of c.args.p.now) c.args.f.now c.requires.light c.requires.few c.requires.whole c.requires.normal e.some
    (within-limits (pred_of c.args.p.now) c.args.f.now (vectors_of (length p.shape.vars) c.in-Ok.st) p.shape.kept c.requires.normal
    e.stages.lists e.count e.weight)

pub returns-in-Err-Zero-clause-err : goal.returns-in-Err-Zero-clause-err
returns-in-Err-Zero-clause-err c =
    let e = rw c.in-Err-Zero.field-0-is at c.in-Err-Zero.ensures.err in
    zero_stops c.args.k (pred_of c.args.p.now) c.args.f.now c.requires.light c.requires.few c.requires.whole c.requires.normal e

pub returns-in-Err-Stages-clause-err : goal.returns-in-Err-Stages-clause-err
returns-in-Err-Stages-clause-err c =
    let e = rw c.in-Err-Stages.field-0-is at c.in-Err-Stages.ensures.err in
    stages_stops c.args.k (pred_of c.args.p.now) c.args.f.now c.requires.light c.requires.few c.requires.whole c.requires.normal e.0 e.1
