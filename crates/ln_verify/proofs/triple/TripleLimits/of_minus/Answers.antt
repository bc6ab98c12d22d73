-- Answers to the goals of `of_minus` in src/triple.rt.
use Rattle.std.proofs.Common.{refl, sym, ◌∙◌}
use Rattle.ln_algebra.specs.Tree.{Neg}
use Rattle.ln_verify.specs.BlockRules.{triple_rules}
use Rattle.ln_verify.specs.Rules.{in_triple}
use Rattle.ln_verify.proofs.Values.Ranges.{by-triple, covering}
use Rattle.ln_verify.proofs.triple.TripleLimits.of_minus.Goals as goal

pub returns-then-not-is_64 : goal.returns-then-not-is_64
returns-then-not-is_64 c v vars b t n h = rw (sym c.is_64.ensures ∙ c.if-not-is_64.true) refl

pub returns : goal.returns
returns c v vars b t n h =
    let a = c.args.a in
    let x = c.args.x in
    by-triple (λ z. (triple_rules v vars).minus c.args.w z (in_triple x t n)) c.covering.result c.same_covered.result a b (Neg t) n
    c.covering.ensures h
    (rw (sym c.is_64.ensures ∙ c.if-not-is_64.false) (covering a n (Neg t) c.same_covered.result x.k x.h x.e c.same_covered.ensures))
