-- Answers to the goals of `of_local` in src/triple.rt.
use Rattle.ln_verify.specs.BlockRules.{triple_rules}
use Rattle.ln_verify.specs.Rules.{in_triple}
use Rattle.ln_verify.proofs.Values.Ranges.{by-triple, covering}
use Rattle.ln_verify.proofs.triple.TripleLimits.of_local.Goals as goal

pub returns : goal.returns
returns c v vars b t n h =
    let a = c.args.a in
    let x = c.args.x in
    by-triple ((triple_rules v vars).again (in_triple x t n)) c.covering.result c.same_covered.result a b t n c.covering.ensures h
    (covering a n t c.same_covered.result x.k x.h x.e c.same_covered.ensures)
