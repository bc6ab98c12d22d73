-- Invariants and measures of the functions of the cycle `stmt` in src/body.rt.
use Rattle.std.proofs.Common.{◌+◌, ◌*◌, length, map}
use Rattle.ln_csyn.specs.Seen.{tokens_of}
use Rattle.ln_csyn.specs.View.{stmt_front}
use Rattle.ln_csyn.specs.Reading.{stmt_at, block_at}
use Rattle.ln_csyn.proofs.Reading.Loops.{Going}
use Rattle.ln_csyn.proofs.body.+stmt.Given as goal

abbrev pub decreases-block : goal.decreases-block
decreases-block l = 5 * l.braces

abbrev pub decreases-stmts : goal.decreases-stmts
decreases-stmts l = 5 * l.braces + 4

abbrev pub decreases-stmt : goal.decreases-stmt
decreases-stmt l = 5 * l.braces + 3

abbrev pub decreases-group_rest : goal.decreases-group_rest
decreases-group_rest l = 5 * l.braces + 2

abbrev pub decreases-if_rest : goal.decreases-if_rest
decreases-if_rest l = 5 * l.braces + 2

abbrev pub decreases-stmts-stmts : goal.decreases-stmts-stmts
decreases-stmts-stmts l = length (tokens_of l.rest)

abbrev pub invariant-stmts-stmts : goal.invariant-stmts-stmts
invariant-stmts-stmts l =
    Going (stmt_at l.depths.outer l.depths.inner (block_at l.depths.outer l.depths.inner l.braces)) (tokens_of l.tokens)
    (map stmt_front l.body.items) (tokens_of l.rest)
