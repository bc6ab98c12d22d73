-- Answers to the goals of `decide` in src/kinds.rt.
use Rattle.ln_verify.specs.Here.{subject_of}
use Rattle.ln_verify.proofs.Engines.AtSpots.{decided}
use Rattle.ln_verify.proofs.kinds.decide.Goals as goal

pub returns : goal.returns
returns c v = decided v (subject_of c.args.case.now) c.args.state.now c.new.result c.new.ensures
    (λ s i. (c.in_ok-decides.ensures s i).0 c.if-not-branch.false)
