-- Invariants and measures of the functions of the cycle `expr` in src/expr.rt.
use Rattle.std.proofs.Common.{◌+◌, ◌*◌}
use Rattle.ln_csyn.proofs.expr.+expr.Given as goal

abbrev pub decreases-expr : goal.decreases-expr
decreases-expr l = 4 * l.depth

abbrev pub decreases-inside : goal.decreases-inside
decreases-inside l = 4 * l.depth + 3

abbrev pub decreases-two_rest : goal.decreases-two_rest
decreases-two_rest l = 4 * l.depth + 2

abbrev pub decreases-minus_rest : goal.decreases-minus_rest
decreases-minus_rest l = 4 * l.depth + 2

abbrev pub decreases-closed : goal.decreases-closed
decreases-closed l = 4 * l.depth + 1

abbrev pub decreases-cast_rest : goal.decreases-cast_rest
decreases-cast_rest l = 4 * l.depth + 2

abbrev pub decreases-primary : goal.decreases-primary
decreases-primary l = 4 * l.depth + 1
