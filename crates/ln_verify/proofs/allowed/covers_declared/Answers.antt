-- Answers to the goals of `covers_declared` in src/allowed.rt.
use Rattle.std.proofs.Common.{sym, ◌∙◌}
use Rattle.ln_verify.proofs.Values.Ranges.{not-true}
use Rattle.ln_verify.proofs.allowed.covers_declared.Goals as goal

pub returns-then-not-covers_low : goal.returns-then-not-covers_low
returns-then-not-covers_low c = (λ e. not-true _ e, λ h. not-true _ (sym c.if-not-covers_low.true ∙ c.covers_low.ensures.1 h.0))

pub returns : goal.returns
returns c = (λ e. (c.covers_low.ensures.0 c.if-not-covers_low.false, c.covers_high.ensures.0 e), λ h. c.covers_high.ensures.1 h.1)
