-- Answers to the goals of the functions of the cycle `expr` in src/expr.rt.
use Rattle.std.proofs.Common.{rules, ◌≡◌, ◌<◌, ◌-◌, Some, arith}
use Rattle.std.specs.Prelude.{codes}
use Rattle.ln_csyn.specs.Seen.{tokens_of}
use Rattle.ln_csyn.specs.Reading.{eat}
use Rattle.ln_csyn.proofs.Reading.Steps.{expr_step}
use Rattle.ln_csyn.proofs.expr.+expr.Goals as goal

pub expr-returns-clause-ok : goal.expr-returns-clause-ok
expr-returns-clause-ok t c =
    let some : 0 < c.args.depth = search rules in
    let e : eat (codes "(") (tokens_of c.args.tokens) ≡ Some (tokens_of c.in-Some.rest) = search rules in
    rw (expr_step c.args.depth (c.args.depth - 1) (tokens_of c.args.tokens) (tokens_of c.in-Some.rest) (omega (arith, some)) e) c.inside.ensures.ok

pub expr-returns-clause-err : goal.expr-returns-clause-err
expr-returns-clause-err t c =
    let some : 0 < c.args.depth = search rules in
    let e : eat (codes "(") (tokens_of c.args.tokens) ≡ Some (tokens_of c.in-Some.rest) = search rules in
    rw (expr_step c.args.depth (c.args.depth - 1) (tokens_of c.args.tokens) (tokens_of c.in-Some.rest) (omega (arith, some)) e) c.inside.ensures.err
