-- Answers to the goals of `file` in src/read.rt.
use Rattle.std.proofs.Common.{rules, ◌≡◌, map}
use Rattle.std.proofs.lemmas.Result.{err_from_is_err_and}
use Rattle.ln_csyn.specs.Seen.{tokens_of}
use Rattle.ln_csyn.specs.View.{fun_tree}
use Rattle.ln_csyn.proofs.Reading.ReadLemmas.{rest_keep, read_ok, read_no, read_none}
use Rattle.ln_csyn.proofs.read.file.Goals as goal

pub returns-in_err-fs-clause-err : goal.returns-in_err-fs-clause-err
returns-in_err-fs-clause-err c =
    let p = err_from_is_err_and c.from_residual.result c.from_residual.ensures.1 in
    rw (p.1, p.2) (λ e. read_none c.args.depths.outer c.args.depths.inner c.args.braces
    (tokens_of c.args.tokens) c.requires.outer c.requires.inner c.requires.braces (c.in_err-fs.ensures.err e))

pub returns-then-kept-clause-ok : goal.returns-then-kept-clause-ok
returns-then-kept-clause-ok c =
    let v : c.in_ok-kept.kept ≡ rest_keep (map fun_tree c.in_ok-fs.fs.items) = search rules in
    read_ok c.args.depths.outer c.args.depths.inner c.args.braces (tokens_of c.args.tokens) (map fun_tree c.in_ok-fs.fs.items)
    c.in_ok-kept.kept c.requires.outer c.requires.inner c.requires.braces c.in_ok-fs.ensures.ok v c.if-kept.true

pub returns-else-kept-clause-err : goal.returns-else-kept-clause-err
returns-else-kept-clause-err c =
    let v : c.in_ok-kept.kept ≡ rest_keep (map fun_tree c.in_ok-fs.fs.items) = search rules in
    λ e. read_no c.args.depths.outer c.args.depths.inner c.args.braces (tokens_of c.args.tokens) (map fun_tree c.in_ok-fs.fs.items)
    c.in_ok-kept.kept c.requires.outer c.requires.inner c.requires.braces c.in_ok-fs.ensures.ok v c.if-kept.false
