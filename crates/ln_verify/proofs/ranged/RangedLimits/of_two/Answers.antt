-- Answers to the goals of `of_two` in src/ranged.rt.
use Rattle.std.proofs.Common.{◌∙◌, ◌&&◌, refl, subst, sym}
use Rattle.ln_interval.specs.Range.{Range}
use Rattle.ln_interval.specs.View.{range}
use Rattle.ln_bound.specs.Typed.{bound_of, range_of, two_of}
use Rattle.ln_bound.specs.Widths.{no_wider}
use Rattle.ln_code.specs.Rules.{known}
use Rattle.ln_verify.specs.Rules.{IsRule, in_range}
use Rattle.ln_verify.proofs.Values.Ranges.{no-ends, none-if, none-right, not-fit, the-ends}
use Rattle.ln_bound.proofs.Soundness.ExactLaws.{two_ordered}
use Rattle.ln_verify.proofs.ranged.RangedLimits.of_two.Goals as goal

pub returns-in_default : goal.returns-in_default
returns-in_default c v vars p d e m n h =
    none-if (no_wider c.args.x.width c.args.w && no_wider c.args.y.width c.args.w) _
    (not-fit (range_of c.args.t (range c.args.x.pair) (range c.args.y.pair)) p c.args.w (bound_of c.args.t m n) (two_of c.args.t d e)
    (no-ends c.args.ends p c.in_default.is h))

pub returns-then-not-no_wider : goal.returns-then-not-no_wider
returns-then-not-no_wider c v vars p d e m n h = rw (sym c.no_wider.ensures ∙ c.if-not-no_wider.true) refl

pub returns-then-not-no_wider-2 : goal.returns-then-not-no_wider-2
returns-then-not-no_wider-2 c v vars p d e m n h = none-right (no_wider c.args.x.width c.args.w) (no_wider c.args.y.width c.args.w)
    (known (range_of c.args.t (range c.args.x.pair) (range c.args.y.pair)) p c.args.w (bound_of c.args.t m n) (two_of c.args.t d e))
    (sym c.no_wider-2.ensures ∙ c.if-not-no_wider-2.true)

pub returns : goal.returns
returns c v vars p d e m n h =
    let t = c.args.t in
    let x = range c.args.x.pair in
    let y = range c.args.y.pair in
    let r = range_of t x y in
    let o = two_ordered t x y c.args.x.pair.ordered c.args.y.pair.ordered in
    rw (sym c.no_wider.ensures ∙ c.if-not-no_wider.false, sym c.no_wider-2.ensures ∙ c.if-not-no_wider-2.false)
    (subst (λ (q : Range). IsRule in_range c.ruled.result (two_of t d e) (bound_of t m n) (known r q c.args.w (bound_of t m n) (two_of t d e)))
    (the-ends c.args.ends c.in-Some.b p c.in-Some.is h)
    (c.ruled.ensures r (two_of t d e) (bound_of t m n) (c.is_covered.ensures r o c.joined_pair.ensures)))
