-- Answers to the goals of `block_op` in src/kinds.rt.
use Rattle.std.proofs.lemmas.Result.{IfOk-weaker}
use Rattle.ln_verify.specs.BlockRules.{balanced}
use Rattle.ln_verify.specs.Here.{subject_of}
use Rattle.ln_verify.specs.Versions.{version_of}
use Rattle.ln_verify.proofs.Engines.AtSpots.{bound-led}
use Rattle.ln_verify.proofs.kinds.block_op.Goals as goal

pub returns : goal.returns
returns c = IfOk-weaker c.operate.result _ _ (λ ok h.
    bound-led (version_of c.args.version) (subject_of c.args.case.now) c.args.state.now c.operate.new.on c.args.op c.args.b ok
    (h (balanced c.args.b) c.pair_of_bound-said.ensures)) c.operate.ensures
