-- Answers to the goals of `funs` in src/file.rt.
use Rattle.std.proofs.Common.{rules}
use Rattle.std.proofs.lemmas.Result.{err_from_is_err_and}
use Rattle.ln_csyn.specs.Seen.{tokens_of}
use Rattle.ln_csyn.proofs.Reading.FunLoops.{read_begins, read_ends, read_fails, read_goes, fun_less}
use Rattle.ln_csyn.proofs.file.funs.Goals as goal

pub funs-init : goal.funs-init
funs-init c = rw c.new-funs.ensures.items (read_begins _ (tokens_of c.args.tokens))

pub returns-in_err-f-clause-err : goal.returns-in_err-f-clause-err
returns-in_err-f-clause-err c =
    let p = err_from_is_err_and c.from_residual.result c.from_residual.ensures.1 in
    rw (p.1, p.2) (λ e. read_fails _ (tokens_of c.args.tokens) c.funs.rest c.funs.funs.items _ c.funs.invariant
    c.is_end.ensures c.if-is_end.false (c.in_err-f.ensures.err e))

pub returns-then-is_end-clause-ok : goal.returns-then-is_end-clause-ok
returns-then-is_end-clause-ok c =
    read_ends _ (tokens_of c.args.tokens) c.funs.rest c.funs.funs.items _ c.funs.invariant c.is_end.ensures c.if-is_end.true

pub funs-smaller : goal.funs-smaller
funs-smaller c =
    fun_less c.args.depths.outer c.args.depths.inner c.args.braces (tokens_of c.funs.rest) (tokens_of c.in_ok-f.next) _
    c.requires.braces c.requires.depths c.in_ok-f.ensures.ok

pub funs-preserved : goal.funs-preserved
funs-preserved c =
    read_goes c.args.depths.outer c.args.depths.inner c.args.braces (tokens_of c.args.tokens) (tokens_of c.funs.rest) (tokens_of c.in_ok-f.next)
    c.funs.funs.items _ c.in_ok-f.f c.requires.braces c.requires.depths c.funs.invariant c.in_ok-f.ensures.ok c.in_ok-push.ensures.items
