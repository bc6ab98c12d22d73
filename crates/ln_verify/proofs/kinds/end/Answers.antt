-- Answers to the goals of `end` in src/kinds.rt.
use Rattle.std.proofs.Common.{length, subst, sym, ◌∙◌}
use Rattle.ln_verify.proofs.Values.Ranges.{not-true}
use Rattle.ln_verify.specs.Here.{AreAbove, subject_of}
use Rattle.ln_verify.proofs.Engines.AtSpots.{end-not, ended}
use Rattle.ln_verify.proofs.kinds.end.Goals as goal

pub returns-then-not-branch : goal.returns-then-not-branch
returns-then-not-branch c v = end-not v (subject_of c.args.case.now) c.args.state.now (λ es a s e m i q. not-true _ (sym c.if-not-branch.true
    ∙ (c.in_ok-ends.ensures es a s (c.as_slice.ensures ∙ e) (subst (AreAbove (length c.args.case.now.shape.now.vars)) (sym c.as_slice.ensures) m) i).1 q))

pub returns : goal.returns
returns c v = ended v (subject_of c.args.case.now) c.args.state.now (λ es a s e m i. (c.in_ok-ends.ensures es a s
    (c.as_slice.ensures ∙ e) (subst (AreAbove (length c.args.case.now.shape.now.vars)) (sym c.as_slice.ensures) m) i).0 c.if-not-branch.false)
