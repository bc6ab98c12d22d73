-- Invariants and measures of the functions of the cycle `keep` in src/keep.rt.
use Rattle.std.proofs.Common.{◌≡◌, drop}
use Rattle.ln_csyn.specs.View.{body_tree}
use Rattle.ln_csyn.specs.Sets.{names_in}
use Rattle.ln_csyn.specs.Keeps.{body_keeps}
use Rattle.ln_csyn.proofs.keep.+keep.Given as goal

abbrev pub invariant-stmts_keep-stmts : goal.invariant-stmts_keep-stmts
invariant-stmts_keep-stmts l = body_keeps (names_in l.funs) l.calls (names_in l.seen) (body_tree (drop l.s-index l.stmts))
    ≡ body_keeps (names_in l.funs) l.calls (names_in l.fn.seen) (body_tree l.stmts)
