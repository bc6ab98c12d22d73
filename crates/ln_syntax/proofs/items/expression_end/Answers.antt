use Rattle.std.proofs.Common.{ℕ, arith, subst}
use Rattle.ln_syntax.specs.Expression.{IsExpr}
use Rattle.ln_syntax.proofs.Recognising.Ahead.{next_semi}
use Rattle.ln_syntax.proofs.Spellings.Parts.{end_ahead}
use Rattle.ln_syntax.proofs.items.expression_end.Goals as goal

pub overflow_add-to : goal.overflow_add-to
overflow_add-to c = let w = end_ahead c.requires.there c.tokens.invariant in omega (arith, c.requires.small)

pub tokens-smaller : goal.tokens-smaller
tokens-smaller c = let w = end_ahead c.requires.there c.tokens.invariant in omega arith

pub returns-clause-expression : goal.returns-clause-expression
returns-clause-expression c =
    let h = c.requires.there in
    let q = next_semi h.derives h.stops c.tokens.invariant.rises c.tokens.invariant.none (c.is.ensures.0 c.tokens-test.false) in
    subst (λ (w : ℕ). IsExpr c.args.ts.now c.args.from w) q h.derives
