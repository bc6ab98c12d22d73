-- Answers to the goals of `of_two` in src/triple.rt.
use Rattle.std.proofs.Common.{refl, sym, ◌∙◌}
use Rattle.ln_bound.specs.Typed.{bound_of, two_of}
use Rattle.ln_verify.specs.BlockRules.{triple_rules}
use Rattle.ln_verify.specs.Rules.{in_triple}
use Rattle.ln_verify.proofs.Values.Ranges.{by-triple, two-covering}
use Rattle.ln_verify.proofs.triple.TripleLimits.of_two.Goals as goal

pub returns-then-not-is_64 : goal.returns-then-not-is_64
returns-then-not-is_64 c v vars b d e m n h = rw (sym c.is_64.ensures ∙ c.if-not-is_64.true) refl

pub returns : goal.returns
returns c v vars b d e m n h =
    let a = c.args.a in
    let t = c.args.t in
    let x = in_triple c.args.x d m in
    let y = in_triple c.args.y e n in
    by-triple (λ z. (triple_rules v vars).two t c.args.w z x y) c.covering.result c.two_covered.result a b (two_of t d e) (bound_of t m n)
    c.covering.ensures h
    (rw (sym c.is_64.ensures ∙ c.if-not-is_64.false) (two-covering t c.two_covered.result c.args.x c.args.y a d e m n c.two_covered.ensures))
