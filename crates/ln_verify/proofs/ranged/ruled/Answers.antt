-- Answers to the goals of `ruled` in src/ranged.rt.
use Rattle.std.proofs.Common.{◌∙◌, sym}
use Rattle.ln_interval.specs.View.{range}
use Rattle.ln_verify.proofs.Values.Ranges.{is-ruled, not-ruled, not-true}
use Rattle.ln_verify.proofs.ranged.ruled.Goals as goal

pub returns-then-not-is_allowed : goal.returns-then-not-is_allowed
returns-then-not-is_allowed c r t s h =
    not-ruled r (range c.args.b) c.args.width s t (λ a. not-true _ (sym c.if-not-is_allowed.true ∙ (c.is_allowed.ensures r h).1 a))

pub returns : goal.returns
returns c r t s h = is-ruled r (range c.args.b) c.args.width s t ((c.is_allowed.ensures r h).0 c.if-not-is_allowed.false)
