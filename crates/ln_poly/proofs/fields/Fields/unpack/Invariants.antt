use Rattle.std.proofs.Common.{◌≡◌, take}
use Rattle.ln_poly.specs.Packed.{unkeyed, weights}
use Rattle.ln_poly.proofs.fields.Fields.unpack.Given as goal

abbrev pub invariant-terms : goal.invariant-terms
invariant-terms g l = l.out.items ≡ unkeyed (weights l.self.shifts) (take l.t-index l.f)
