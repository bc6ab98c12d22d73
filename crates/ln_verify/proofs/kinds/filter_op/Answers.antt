-- Answers to the goals of `filter_op` in src/kinds.rt.
use Rattle.std.proofs.Common.{refl}
use Rattle.std.proofs.lemmas.Result.{IfOk-weaker}
use Rattle.ln_verify.specs.Here.{subject_of}
use Rattle.ln_verify.specs.Versions.{version_of}
use Rattle.ln_verify.proofs.Engines.AtSpots.{filter_stack-led}
use Rattle.ln_verify.proofs.kinds.filter_op.Goals as goal

pub returns : goal.returns
returns c = IfOk-weaker c.operate.result _ _ (λ ok h.
    filter_stack-led (version_of c.args.version) (subject_of c.args.case.now) c.args.state.now c.operate.new.on c.args.op c.args.a
    ok (h c.args.a refl)) c.operate.ensures
