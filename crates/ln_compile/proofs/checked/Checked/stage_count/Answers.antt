use Rattle.ln_stage.specs.Staged.{count_numbers}
use Rattle.ln_compile.specs.Compiled.{IsStageCount}
use Rattle.ln_compile.proofs.Listing.StagingLemmas.{counted}
use Rattle.ln_compile.proofs.Numbers.{holds_at}
use Rattle.ln_compile.proofs.checked.Checked.stage_count.Goals as goal

pub returns : goal.returns
returns c =
    let a = c.accepted.result in
    rw (c.count.ensures, c.stages.ensures) (holds_at (λ p. IsStageCount p (count_numbers a.stages.lists)) c.args.self.now.table.preds c.args.i a.pred
    c.accepted.ensures.pred (counted a c.accepted.ensures.kept))
