-- Answers to the goals of `of_input` in src/triple.rt.
use Rattle.std.proofs.Common.{subst, sym}
use Rattle.std.specs.Prelude.{Option, None, Some, if◌then◌else◌}
use Rattle.ln_algebra.specs.Tree.{Input}
use Rattle.ln_tree.specs.declared.shape.VarInfo.{VarInfo}
use Rattle.ln_bound.specs.Value.{size_of}
use Rattle.ln_code.specs.Engine.{next}
use Rattle.ln_code.specs.FilterRules.{filter_known}
use Rattle.ln_verify.specs.BlockRules.{triple_rules}
use Rattle.ln_verify.specs.Rules.{IsRule, in_triple}
use Rattle.ln_verify.specs.Versions.{version_of}
use Rattle.ln_verify.proofs.Values.Ranges.{by-triple, covering}
use Rattle.ln_verify.proofs.triple.TripleLimits.of_input.Goals as goal

pub returns : goal.returns
returns c vars k b h e =
    let a = c.args.a in
    let v = version_of c.args._version in
    let i = c.args.i in
    by-triple ((triple_rules v vars).input k) c.covering.result c.input_covered.result a b (Input k) (v.size i) c.covering.ensures h
    (subst (λ (o : Option VarInfo). IsRule in_triple (if c.input_covered.result then Some a else None) (Input k) (v.size i)
    (next o (λ j. filter_known 0 (size_of j) 0 (v.size j) (Input k) a))) (sym e)
    (covering a (v.size i) (Input k) c.input_covered.result 0 (size_of i) 0 c.input_covered.ensures))
