-- Answers to the goals of the functions of the cycle `stmt` in src/body.rt.
use Rattle.std.proofs.Common.{rules, ◌≡◌}
use Rattle.std.specs.Prelude.{codes}
use Rattle.std.proofs.lemmas.Result.{err_from_is_err_and}
use Rattle.ln_csyn.specs.Seen.{tokens_of}
use Rattle.ln_csyn.specs.Reading.{begins as begins_text}
use Rattle.ln_csyn.proofs.Reading.Loops.{begins, read_ends, read_fails, read_goes, stmt_less}
use Rattle.ln_csyn.proofs.body.+stmt.Goals as goal

pub stmts-stmts-init : goal.stmts-stmts-init
stmts-stmts-init t c = rw c.new-body.ensures.items (begins _ (tokens_of c.args.tokens))

pub stmts-returns-then-begins-clause-ok : goal.stmts-returns-then-begins-clause-ok
stmts-returns-then-begins-clause-ok t c =
    let b : c.begins.result ≡ begins_text (codes "}") (tokens_of c.stmts.rest) = search rules in
    read_ends _ (tokens_of c.args.tokens) (tokens_of c.stmts.rest) c.stmts.body.items _ c.stmts.invariant b c.if-begins.true

pub stmts-returns-in_err-s-clause-err : goal.stmts-returns-in_err-s-clause-err
stmts-returns-in_err-s-clause-err t c =
    let b : c.begins.result ≡ begins_text (codes "}") (tokens_of c.stmts.rest) = search rules in
    let p = err_from_is_err_and c.from_residual.result c.from_residual.ensures.1 in
    rw (p.1, p.2) (λ e. read_fails _ (tokens_of c.args.tokens) (tokens_of c.stmts.rest) c.stmts.body.items _ c.stmts.invariant
    b c.if-begins.false (c.in_err-s.ensures.err e))

pub stmts-stmts-smaller : goal.stmts-stmts-smaller
stmts-stmts-smaller t c =
    stmt_less c.args.depths.outer c.args.depths.inner c.args.braces (tokens_of c.stmts.rest) (tokens_of c.in_ok-s.next) _ c.requires c.in_ok-s.ensures.ok

pub stmts-stmts-preserved : goal.stmts-stmts-preserved
stmts-stmts-preserved t c =
    let b : c.begins.result ≡ begins_text (codes "}") (tokens_of c.stmts.rest) = search rules in
    read_goes c.args.depths.outer c.args.depths.inner c.args.braces (tokens_of c.args.tokens) (tokens_of c.stmts.rest) (tokens_of c.in_ok-s.next)
    c.stmts.body.items _ c.in_ok-s.s _ c.requires c.stmts.invariant b c.if-begins.false c.in_ok-s.ensures.ok c.in_ok-push.ensures.items
