use Rattle.std.proofs.Common.{◌≡◌, length, arith}
use Rattle.ln_syntax.proofs.Recognising.Fault.{is_at}
use Rattle.ln_syntax.proofs.Recognising.Depth.{depth_more, shallow_more, shallow_all}
use Rattle.ln_syntax.proofs.nesting.nesting_fault.Goals as goal

pub tokens-preserved : goal.tokens-preserved
tokens-preserved c =
    let is = is_at c.args.ts.now c.tokens.i _ c.tokens-test.true in
    record {
      at = depth_more c.args.ts.now c.tokens.i _ c.tokens.depth c.in-Some.behind c.tokens.invariant.at is c.in-Some.ensures.step;
      within = c.in-Some.ensures.within;
      shallow = shallow_more c.args.ts.now c.tokens.i _ c.tokens.depth c.tokens.invariant.shallow c.tokens.invariant.at is c.in-Some.ensures.shallow;
    }

pub returns-clause-none : goal.returns-clause-none
returns-clause-none c =
    let e : c.tokens.i ≡ length c.args.ts.now = omega arith in
    shallow_all c.args.ts.now (rw (← e) c.tokens.invariant.shallow)
