-- Answers to the goals of `of_number` in src/triple.rt.
use Rattle.std.proofs.Common.{◌≡◌, ◌/◌, ◌^◌, FitsSigned, rules, subst, unsigned_abs}
use Rattle.std.specs.Prelude.{ℤ}
use Rattle.std.proofs.lemmas.Int.{to_z-of_z}
use mir.Syntax.{w128}
use Rattle.ln_algebra.specs.Tree.{Num}
use Rattle.ln_code.specs.FilterRules.{covers, push_error}
use Rattle.ln_verify.specs.BlockRules.{triple_rules}
use Rattle.ln_verify.proofs.Values.Ranges.{by-triple, covering}
use Rattle.ln_verify.proofs.triple.TripleLimits.of_number.Goals as goal

pub returns : goal.returns
returns c v vars b h =
    let a = c.args.a in
    let f : FitsSigned w128 c.args.c = search rules in
    let q = subst (λ (z : ℤ). c.number_covered.result ≡ covers a.k (unsigned_abs z / 2 ^ a.k) (push_error a.k) a)
    (to_z-of_z w128 c.args.c f) c.number_covered.ensures in
    by-triple ((triple_rules v vars).push c.args.c) c.covering.result c.number_covered.result a b (Num c.args.c) (unsigned_abs c.args.c)
    c.covering.ensures h
    (covering a (unsigned_abs c.args.c) (Num c.args.c) c.number_covered.result a.k (unsigned_abs c.args.c / 2 ^ a.k) (push_error a.k) q)
