use Rattle.std.proofs.Common.{◌≡◌, length, sym, ◌∙◌, arith}
use Rattle.ln_syntax.proofs.Recognising.Fault.{is_at, fault_at, fault_end, is_text, walked_more}
use Rattle.ln_syntax.proofs.place.syntax_fault.Goals as goal

pub returns-in_default-clause-some : goal.returns-in_default-clause-some
returns-in_default-clause-some c =
    fault_at c.args.ts.now c.tokens.i _ c.tokens.state c.tokens.depth c.tokens-test.true c.tokens.invariant.walked
    (is_at c.args.ts.now c.tokens.i _ c.tokens-test.true) (sym c.next.ensures.step ∙ c.in_default.is)

pub tokens-preserved : goal.tokens-preserved
tokens-preserved c = record {
  walked = walked_more c.args.ts.now c.tokens.i _ c.tokens.state c.in-Some.after c.tokens.depth c.in-Some.open c.tokens.invariant.walked
      (is_at c.args.ts.now c.tokens.i _ c.tokens-test.true) (sym c.next.ensures.step ∙ c.in-Some.is);
  shallow = let h = c.in-Some.ensures.shallow in omega arith;
}

pub returns-then-ends-clause-none : goal.returns-then-ends-clause-none
returns-then-ends-clause-none c =
    let e : c.tokens.i ≡ length c.args.ts.now = omega arith in
    is_text c.args.ts.now c.tokens.state c.tokens.depth (rw (← e) c.tokens.invariant.walked) (sym c.ends.ensures ∙ c.if-ends.true)

pub returns-else-ends-clause-some : goal.returns-else-ends-clause-some
returns-else-ends-clause-some c =
    let e : c.tokens.i ≡ length c.args.ts.now = omega arith in
    fault_end c.args.ts.now c.tokens.state c.tokens.depth (rw (← e) c.tokens.invariant.walked) (sym c.ends.ensures ∙ c.if-ends.false)
