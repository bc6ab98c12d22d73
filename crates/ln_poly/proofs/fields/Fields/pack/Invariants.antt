use Rattle.std.proofs.Common.{◌≡◌, take}
use Rattle.ln_poly.specs.Packed.{keyed, weights}
use Rattle.ln_poly.proofs.fields.Fields.pack.Given as goal

abbrev pub invariant-terms : goal.invariant-terms
invariant-terms g l = l.out.items ≡ keyed (weights l.self.shifts) (take l.t-index l.f)
