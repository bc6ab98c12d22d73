-- Answers to the goals of `add` in src/shared_poly.rt.
use Rattle.std.proofs.Common.{arith}
use Rattle.std.proofs.lemmas.Result.{IfOk-weaker}
use Rattle.ln_poly.specs.Sparse.{Sparse}
use Rattle.ln_verify.specs.Joined.{IsSum}
use Rattle.ln_verify.proofs.Polynomials.Negations.{sum-turned}
use Rattle.ln_verify.proofs.shared_poly.add.Goals as goal

pub add_to-requires : goal.add_to-requires
add_to-requires c = omega (arith, c.requires)

pub returns-then-count : goal.returns-then-count
returns-then-count c =
    IfOk-weaker c.add_to.result (λ (h : Sparse). IsSum c.args.g c.args.f h) (λ (h : Sparse). IsSum c.args.f c.args.g h)
    (λ h s. sum-turned c.args.f c.args.g h s) c.add_to.ensures
