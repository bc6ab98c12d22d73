use Rattle.std.proofs.Common.{arith, length}
use Rattle.ln_stage.specs.Lists.{stage_count, stage_weight}
use Rattle.ln_stage.specs.Staged.{vectors_of}
use Rattle.ln_graded.proofs.Joining.{within-more}
use Rattle.ln_graded.proofs.program.graded_from.Goals as goal

pub joined-requires-clause-weight : goal.joined-requires-clause-weight
joined-requires-clause-weight c = omega (arith, c.in_ok-st.ensures.weight, c.requires.heavy)

pub returns-clause-within : goal.returns-clause-within
returns-clause-within c =
    let s = c.args.s.now in
    let e = c.in_ok-st.ensures in
    within-more s c.args.f.now (stage_count (vectors_of (length s.vars) c.in_ok-st.st)) (stage_weight (length s.vars) c.args.f.now
    (vectors_of (length s.vars) c.in_ok-st.st)) c.args.most c.args.heavy c.in_ok-program.program e.count e.weight c.in_ok-program.ensures.within
