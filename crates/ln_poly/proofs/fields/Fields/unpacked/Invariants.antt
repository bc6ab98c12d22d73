use Rattle.std.proofs.Common.{◌-◌}
use Rattle.ln_poly.proofs.Packing.Fields.{IsOpening}
use Rattle.ln_poly.proofs.fields.Fields.unpacked.Given as goal

abbrev pub invariant-vars : goal.invariant-vars
invariant-vars g l = IsOpening l.self.shifts l.fn.n l.out l.rest l.v

abbrev pub decreases-vars : goal.decreases-vars
decreases-vars g l = 256 - l.v
