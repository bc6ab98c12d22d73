-- Answers to the goals of the functions of the cycle `keep` in src/keep.rt.
use Rattle.ln_csyn.specs.Sets.{names_in}
use Rattle.ln_csyn.proofs.Keeping.KeepLemmas.{next_stmt}
use Rattle.ln_csyn.proofs.keep.+keep.Goals as goal

pub stmts_keep-stmts-preserved : goal.stmts_keep-stmts-preserved
stmts_keep-stmts-preserved t c =
    next_stmt (names_in c.args.funs.now) (names_in c.stmts.seen) (names_in c.stmt_keeps.new.seen) c.args.calls _ c.args.stmts.now c.stmts.s-index
    c.s-item.result c.stmts-test.true c.s-item.is c.stmts.invariant (c.in_ok-stmt_keeps.ensures.yes c.if-not-branch.false)
