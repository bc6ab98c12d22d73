use Rattle.std.proofs.Common.{arith}
use Rattle.ln_poly.proofs.Sorting.Concatenated.{low-none, low-tested, none-low}
use Rattle.ln_poly.proofs.times.are_low.Goals as goal

pub returns-then-n-eq0 : goal.returns-then-n-eq0
returns-then-n-eq0 c = λ _. none-low c.args.a.now c.args.b.now (omega (arith, c.if-n-eq0.true))

pub returns-then-k-eq0 : goal.returns-then-k-eq0
returns-then-k-eq0 c = λ _. low-none c.args.a.now c.args.b.now (omega (arith, c.if-k-eq0.true))

pub returns : goal.returns
returns c = low-tested c.args.a.now c.args.b.now c.requires.left c.requires.right (omega (arith, c.if-n-eq0.false)) (omega (arith, c.if-k-eq0.false))
