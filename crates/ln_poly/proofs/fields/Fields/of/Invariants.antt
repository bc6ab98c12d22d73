use Rattle.std.proofs.Common.{◌+◌, get_or}
use Rattle.ln_poly.proofs.Packing.Fields.{AreLaid}
use Rattle.ln_poly.proofs.fields.Fields.of.Given as goal

abbrev pub invariant-vars : goal.invariant-vars
invariant-vars g l = AreLaid (λ u. get_or l.a u 0 + get_or l.b u 0) g.row.N l.shifts l.left l.v
