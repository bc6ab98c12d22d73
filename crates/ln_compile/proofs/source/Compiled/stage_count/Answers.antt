use Rattle.ln_stage.specs.Staged.{count_numbers}
use Rattle.ln_compile.specs.Compiled.{IsStageCount}
use Rattle.ln_compile.proofs.Listing.StagingLemmas.{counted}
use Rattle.ln_compile.proofs.Numbers.{holds_at}
use Rattle.ln_compile.proofs.source.Compiled.stage_count.Goals as goal

pub returns : goal.returns
returns c =
    let a = c.among.result in
    rw (c.count.ensures, c.stages.ensures, ← c.self.view_is) (holds_at (λ p. IsStageCount p (count_numbers a.stages.lists)) c.self.inside.table.preds c.args.i
    a.pred (rw c.as_slice.ensures at c.among.ensures.pred) (counted a c.among.ensures.kept))
