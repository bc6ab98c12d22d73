-- Answers to the goals of `plus` in src/joined.rt.
use Rattle.ln_verify.proofs.Polynomials.Negations.{plus-joined}
use Rattle.ln_verify.proofs.joined.plus.Goals as goal

pub returns : goal.returns
returns c = plus-joined c.args.f c.args.g c.in_ok-h.h c.in_ok-h.ensures
