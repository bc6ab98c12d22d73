-- Answers to the goals of `done` in src/judge.rt.
use Rattle.std.proofs.Common.{arith}
use Rattle.ln_verify.proofs.Judging.Places.{case-orders}
use Rattle.ln_verify.proofs.judge.done.Goals as goal

pub returns-then-state-len : goal.returns-then-state-len
returns-then-state-len c = let o = case-orders c.args.case.now c.requires.case in λ e. c.if-state-len.true (omega (arith, e, o, c.len.ensures))

pub returns : goal.returns
returns c = let o = case-orders c.args.case.now c.requires.case in (omega (arith, o, c.len.ensures, c.if-state-len.false), omega arith)
