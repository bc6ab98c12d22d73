-- Answers to the goals of `read_c` in src/read.rt.
use Rattle.std.proofs.Common.{rules, map}
use Rattle.std.proofs.lemmas.Result.{err_from_is_err_and}
use Rattle.ln_csyn.specs.Seen.{tokens_of}
use Rattle.ln_csyn.specs.View.{fun_tree}
use Rattle.ln_csyn.proofs.Reading.ReadLemmas.{no_first, no_file, is_text, kept}
use Rattle.ln_csyn.proofs.read.read_c.Goals as goal

pub returns-in_default-clause-err : goal.returns-in_default-clause-err
returns-in_default-clause-err c = λ e. no_first c.args.bytes.now (search rules)

pub returns-in_err-funs-clause-err : goal.returns-in_err-funs-clause-err
returns-in_err-funs-clause-err c =
    let p = err_from_is_err_and c.from_residual.result c.from_residual.ensures.1 in
    rw (p.1, p.2) (λ e. no_file c.args.bytes.now c.in-Some.rest.now (tokens_of c.tokens_from.result) c.in-Some.ensures.some c.tokens_from.ensures
    (c.in_err-funs.ensures.err e))

pub returns-clause-ok : goal.returns-clause-ok
returns-clause-ok c =
    rw c.from_vec.ensures (is_text c.args.bytes.now c.in-Some.rest.now (tokens_of c.tokens_from.result) (map fun_tree c.in_ok-funs.funs.items)
    c.in-Some.ensures.some c.tokens_from.ensures c.in_ok-funs.ensures.ok)

pub invariant_of-result : goal.invariant_of-result
invariant_of-result c = record {
  kept = rw c.from_vec.ensures (kept (tokens_of c.tokens_from.result) (map fun_tree c.in_ok-funs.funs.items) c.in_ok-funs.ensures.ok);
}
