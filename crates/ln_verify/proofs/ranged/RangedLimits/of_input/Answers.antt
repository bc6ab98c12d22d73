-- Answers to the goals of `of_input` in src/ranged.rt.
use Rattle.std.proofs.Common.{◌≡◌, ◌∙◌, ap, subst, sym}
use Rattle.std.specs.Prelude.{Option}
use Rattle.ln_algebra.specs.Tree.{Input}
use Rattle.ln_interval.specs.Range.{Range, magnitude}
use Rattle.ln_interval.specs.View.{range}
use Rattle.ln_tree.specs.declared.shape.VarInfo.{VarInfo}
use Rattle.ln_bound.specs.Widths.{least}
use Rattle.ln_bound.specs.declared.fitted.Width.{Width}
use Rattle.ln_code.specs.Engine.{next}
use Rattle.ln_code.specs.Rules.{known}
use Rattle.ln_verify.specs.Rules.{IsRule, in_range}
use Rattle.ln_verify.specs.Versions.{version_of}
use Rattle.ln_verify.proofs.Values.Ranges.{no-ends, not-fit, the-ends}
use Rattle.ln_verify.proofs.ranged.RangedLimits.of_input.Goals as goal

pub returns-in_default : goal.returns-in_default
returns-in_default c vars k p h e =
    let v = version_of c.args.version in
    ap (λ (o : Option VarInfo). next o (λ i. known (v.range i) p (least (magnitude p)) (v.size i) (Input k))) e
    ∙ not-fit (v.range c.args.i) p (least (magnitude p)) (v.size c.args.i) (Input k) (no-ends c.args.ends p c.in_default.is h)

pub returns : goal.returns
returns c vars k p h e =
    let v = version_of c.args.version in
    let i = c.args.i in
    let w : c.least.result ≡ least (magnitude (range c.in-Some.b)) = c.least.ensures ∙ ap least c.magnitude.ensures.value in
    let r = c.ruled.ensures (v.range i) (Input k) (v.size i) c.covers_input.ensures in
    subst (λ (o : Option VarInfo). IsRule in_range c.ruled.result (Input k) (v.size i)
    (next o (λ i. known (v.range i) p (least (magnitude p)) (v.size i) (Input k)))) (sym e)
    (subst (λ (q : Range). IsRule in_range c.ruled.result (Input k) (v.size i) (known (v.range i) q (least (magnitude q)) (v.size i) (Input k)))
    (the-ends c.args.ends c.in-Some.b p c.in-Some.is h)
    (subst (λ (z : Width). IsRule in_range c.ruled.result (Input k) (v.size i) (known (v.range i) (range c.in-Some.b) z (v.size i) (Input k))) w r))
