-- Answers to the goals of `of_number` in src/ranged.rt.
use Rattle.std.proofs.Common.{◌≡◌, ◌∙◌, ap, rules, subst, unsigned_abs, FitsSigned}
use Rattle.std.proofs.lemmas.Int.{to_z-of_z}
use mir.Syntax.{w128}
use Rattle.ln_algebra.specs.Tree.{Num}
use Rattle.ln_interval.specs.Range.{Range, magnitude, point}
use Rattle.ln_interval.specs.View.{range}
use Rattle.ln_bound.specs.Widths.{least}
use Rattle.ln_bound.specs.declared.fitted.Width.{Width}
use Rattle.ln_code.specs.Rules.{known}
use Rattle.ln_verify.specs.Rules.{IsRule, in_range}
use Rattle.ln_verify.proofs.Values.Ranges.{no-ends, not-fit, the-ends}
use Rattle.ln_verify.proofs.ranged.RangedLimits.of_number.Goals as goal

pub returns-in_default : goal.returns-in_default
returns-in_default c v vars p h =
    not-fit (point c.args.c) p (least (magnitude p)) (unsigned_abs c.args.c) (Num c.args.c) (no-ends c.args.ends p c.in_default.is h)

pub returns : goal.returns
returns c v vars p h =
    let f : FitsSigned w128 c.args.c = search rules in
    let w : c.least.result ≡ least (magnitude (range c.in-Some.b)) = c.least.ensures ∙ ap least c.magnitude.ensures.value in
    let r = c.ruled.ensures (point c.args.c) (Num c.args.c) (unsigned_abs c.args.c) (rw (to_z-of_z w128 c.args.c f) at c.covers_number.ensures) in
    subst (λ (q : Range). IsRule in_range c.ruled.result (Num c.args.c) (unsigned_abs c.args.c)
    (known (point c.args.c) q (least (magnitude q)) (unsigned_abs c.args.c) (Num c.args.c))) (the-ends c.args.ends c.in-Some.b p c.in-Some.is h)
    (subst (λ (z : Width). IsRule in_range c.ruled.result (Num c.args.c) (unsigned_abs c.args.c)
    (known (point c.args.c) (range c.in-Some.b) z (unsigned_abs c.args.c) (Num c.args.c))) w r)
