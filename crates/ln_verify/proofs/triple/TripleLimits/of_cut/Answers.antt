-- Answers to the goals of `of_cut` in src/triple.rt.
use Rattle.std.proofs.Common.{◌+◌, ◌/◌, ◌^◌}
use Rattle.ln_code.specs.FilterRules.{error_after}
use Rattle.ln_verify.specs.BlockRules.{triple_rules}
use Rattle.ln_verify.specs.Rules.{in_triple}
use Rattle.ln_verify.proofs.Values.Ranges.{by-triple, covering}
use Rattle.ln_verify.proofs.triple.TripleLimits.of_cut.Goals as goal

pub returns : goal.returns
returns c v vars b t m h =
    let a = c.args.a in
    let x = c.args.x in
    let n = c.args.n in
    by-triple (λ z. (triple_rules v vars).cut n z (in_triple x t m)) c.covering.result c.cut_covered.result a b t m c.covering.ensures h
    (covering a m t c.cut_covered.result (x.k + n) (x.h / 2 ^ n) (error_after n x.e) c.cut_covered.ensures)
