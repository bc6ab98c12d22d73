-- Answers to the goals of `decides` in src/kinds.rt.
use Rattle.std.proofs.Common.{arith, length}
use Rattle.ln_verify.proofs.Values.Ranges.{not-true}
use Rattle.ln_verify.specs.Here.{subject_of}
use Rattle.ln_verify.specs.Rules.{in_triple}
use Rattle.ln_verify.proofs.Polynomials.Closes.{filter_stack-decides, filter_stack-wide, not-one}
use Rattle.ln_verify.proofs.kinds.decides.Goals as goal

pub returns-then-len-ne1 : goal.returns-then-len-ne1
returns-then-len-ne1 c s i = (
  λ t. not-true _ t,
  λ q. absurd (not-one in_triple (length c.args.case.now.shape.now.vars) c.args.filter_stack.now.values.items s.stack i.stack
      (λ l. c.if-len-ne1.true (omega (arith, c.len.ensures, l))) q.left q.one),
)

pub returns-then-x-gt9223372036854775807 : goal.returns-then-x-gt9223372036854775807
returns-then-x-gt9223372036854775807 c s i = (
  λ t. not-true _ t,
  λ q. absurd (filter_stack-wide (subject_of c.args.case.now) c.args.filter_stack.now s c.index-x.result.now
      (omega (arith, c.len.ensures, c.if-len-ne1.false)) c.index-x.ensures i c.if-x-gt9223372036854775807.true q),
)

pub returns : goal.returns
returns c s i = filter_stack-decides (subject_of c.args.case.now) c.args.filter_stack.now s c.index-x.result.now c.is_whole.result
    (omega (arith, c.len.ensures, c.if-len-ne1.false)) c.index-x.ensures i c.if-x-gt9223372036854775807.false (rw c.in_ok-f.ensures at c.is_whole.ensures)
