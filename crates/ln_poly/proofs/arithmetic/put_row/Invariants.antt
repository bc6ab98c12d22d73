use Rattle.std.proofs.Common.{take}
use Rattle.ln_poly.specs.Rows.{AreProducts}
use Rattle.ln_poly.proofs.arithmetic.put_row.Given as goal

abbrev pub invariant-loop-t : goal.invariant-loop-t
invariant-loop-t l = AreProducts l.s (take l.t-index l.g) l.out.items
