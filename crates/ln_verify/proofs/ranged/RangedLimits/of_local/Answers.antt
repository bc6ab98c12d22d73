-- Answers to the goals of `of_local` in src/ranged.rt.
use Rattle.std.proofs.Common.{◌≡◌, ◌∙◌, ap, subst}
use Rattle.ln_interval.specs.Range.{Range, magnitude}
use Rattle.ln_interval.specs.View.{range}
use Rattle.ln_bound.specs.Widths.{least, wider}
use Rattle.ln_bound.specs.declared.fitted.Width.{Width}
use Rattle.ln_code.specs.Rules.{known}
use Rattle.ln_verify.specs.Rules.{IsRule, in_range}
use Rattle.ln_verify.proofs.Values.Ranges.{no-ends, not-fit, the-ends}
use Rattle.ln_verify.proofs.ranged.RangedLimits.of_local.Goals as goal

pub returns-in_default : goal.returns-in_default
returns-in_default c v vars p t n h =
    not-fit (range c.args.x.pair) p (wider c.args.x.width (least (magnitude p))) n t (no-ends c.args.ends p c.in_default.is h)

pub returns : goal.returns
returns c v vars p t n h =
    let x = c.args.x in
    let w : c.wider.result ≡ wider x.width (least (magnitude (range c.in-Some.b))) =
    c.wider.ensures ∙ ap (wider x.width) (c.least.ensures ∙ ap least c.magnitude.ensures.value) in
    subst (λ (q : Range). IsRule in_range c.ruled.result t n (known (range x.pair) q (wider x.width (least (magnitude q))) n t))
    (the-ends c.args.ends c.in-Some.b p c.in-Some.is h)
    (subst (λ (z : Width). IsRule in_range c.ruled.result t n (known (range x.pair) (range c.in-Some.b) z n t)) w
    (c.ruled.ensures (range x.pair) t n c.covers.ensures))
