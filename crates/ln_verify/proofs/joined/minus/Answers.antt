-- Answers to the goals of `minus` in src/joined.rt.
use Rattle.std.proofs.Common.{arith}
use Rattle.ln_verify.proofs.Polynomials.Negations.{minus-joined, turned-size}
use Rattle.ln_verify.proofs.joined.minus.Goals as goal

pub add-requires : goal.add-requires
add-requires c = let z = turned-size c.args.g c.opposite-m.result c.opposite-m.ensures in omega (arith, z, c.requires)

pub returns : goal.returns
returns c = minus-joined c.args.f c.args.g c.opposite-m.result c.in_ok-h.h c.opposite-m.ensures c.in_ok-h.ensures
