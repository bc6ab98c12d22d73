use Rattle.std.proofs.Common.{arith}
use Rattle.ln_poly.proofs.Derivations.Lowering.{raised-done, raised-left, raised-none, raised-small, raised-sum}
use Rattle.ln_poly.proofs.binomials.raise.Goals as goal

pub column-init : goal.column-init
column-init c = record { sum = raised-none c.args.k; done = λ j h. absurd (omega (arith, h)); left = λ j l h. c.requires.column j h }

pub overflow_add-sum : goal.overflow_add-sum
overflow_add-sum c =
    let j = c.column.invariant in
    omega (arith, raised-small c.args.k c.column.i c.args.n _ _ c.column-test.true c.requires.few j.sum (j.left c.column.i (omega arith) c.column-test.true))

pub column-preserved : goal.column-preserved
column-preserved c =
    let j = c.column.invariant in
    let s = raised-sum c.args.k c.column.i _ _ j.sum (j.left c.column.i (omega arith) c.column-test.true) in
    record {
      sum = s;
      done = raised-done c.column.c c.args.k c.column.i _ (omega (arith, c.column-test.true, c.requires.few, c.requires.len)) s j.done;
      left = raised-left c.column.c c.args.k c.column.i c.args.n _ j.left;
    }
