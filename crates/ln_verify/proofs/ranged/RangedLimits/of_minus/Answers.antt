-- Answers to the goals of `of_minus` in src/ranged.rt.
use Rattle.std.proofs.Common.{◌↔◌, ◌∙◌, refl, subst, sym}
use Rattle.std.specs.Prelude.{IsTrue}
use Rattle.ln_algebra.specs.Tree.{Neg}
use Rattle.ln_interval.specs.Range.{Covers, Range, opposite}
use Rattle.ln_interval.specs.View.{range}
use Rattle.ln_bound.specs.Widths.{no_wider}
use Rattle.ln_code.specs.Rules.{known}
use Rattle.ln_verify.specs.Rules.{IsRule, in_range}
use Rattle.ln_verify.proofs.Values.Ranges.{no-ends, none-if, not-fit, the-ends}
use Rattle.ln_verify.proofs.ranged.RangedLimits.of_minus.Goals as goal

pub returns-in_default : goal.returns-in_default
returns-in_default c v vars p t n h =
    none-if (no_wider c.args.x.width c.args.w) (known (opposite (range c.args.x.pair)) p c.args.w n (Neg t))
    (not-fit (opposite (range c.args.x.pair)) p c.args.w n (Neg t) (no-ends c.args.ends p c.in_default.is h))

pub returns-then-not-no_wider : goal.returns-then-not-no_wider
returns-then-not-no_wider c v vars p t n h = rw (sym c.no_wider.ensures ∙ c.if-not-no_wider.true) refl

pub returns : goal.returns
returns c v vars p t n h =
    let r = opposite (range c.args.x.pair) in
    rw (sym c.no_wider.ensures ∙ c.if-not-no_wider.false)
    (subst (λ (q : Range). IsRule in_range c.ruled.result (Neg t) n (known r q c.args.w n (Neg t))) (the-ends c.args.ends c.in-Some.b p c.in-Some.is h)
    (c.ruled.ensures r (Neg t) n (subst (λ (z : Range). IsTrue c.covers.result ↔ Covers (range c.in-Some.b) z) c.neg.ensures c.covers.ensures)))
