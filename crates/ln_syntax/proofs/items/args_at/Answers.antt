use Rattle.std.proofs.Common.{◌+◌, arith}
use Rattle.ln_lex.specs.declared.token.Kind.TheVariants.{Comma}
use Rattle.ln_syntax.proofs.Spellings.Parts.{is_within, arg_first, arg_fits, args_last, args_more}
use Rattle.ln_syntax.proofs.items.args_at.Goals as goal

pub returns-then-not-is-clause-ok : goal.returns-then-not-is-clause-ok
returns-then-not-is-clause-ok c = rw c.in_ok-push.ensures.items (args_last c.arguments.invariant c.arg_at.ensures)

pub overflow_add-place-in-arguments : goal.overflow_add-place-in-arguments
overflow_add-place-in-arguments c =
    let w = is_within c.args.ts.now (c.arguments.place + 3) Comma (c.is.ensures.0 c.if-not-is.false) in
    omega (arith, c.requires.small)

pub arguments-smaller : goal.arguments-smaller
arguments-smaller c =
    let w = is_within c.args.ts.now (c.arguments.place + 3) Comma (c.is.ensures.0 c.if-not-is.false) in
    omega arith

pub arguments-preserved : goal.arguments-preserved
arguments-preserved c = rw c.in_ok-push.ensures.items (args_more c.arguments.invariant c.arg_at.ensures (c.is.ensures.0 c.if-not-is.false))

pub overflow_add-place : goal.overflow_add-place
overflow_add-place c = arg_fits 3 (arg_first c.arguments.invariant.rest.derives).derives c.requires.small (omega arith)
