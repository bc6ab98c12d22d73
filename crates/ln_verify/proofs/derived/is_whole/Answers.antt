-- Answers to the goals of `is_whole` in src/derived.rt.
use Rattle.std.proofs.Common.{length}
use Rattle.ln_verify.proofs.Polynomials.Closes.{decide-same}
use Rattle.ln_verify.proofs.derived.is_whole.Goals as goal

pub returns : goal.returns
returns c t h =
    let s = decide-same (length c.args.case.now.shape.now.vars) t c.args.g.now c.args.case.now.poly.now h c.requires.form c.requires.below in
    (λ e. s.0 (c.same.ensures.0 e), λ n. c.same.ensures.1 (s.1 n))
