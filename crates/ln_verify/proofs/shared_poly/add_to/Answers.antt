-- Answers to the goals of `add_to` in src/shared_poly.rt.
use Rattle.std.proofs.Common.{◌≡◌, ◌∙◌, ap, arith, subst, sym}
use Rattle.std.proofs.Math.IntN.{◌+ℤ◌}
use Rattle.ln_poly.specs.Sparse.{AreBelow, IsPoly, Sparse, coefficient_at, size_of}
use Rattle.ln_verify.specs.Signed.{signed}
use Rattle.ln_verify.proofs.Polynomials.Negations.{below-bare, below-signed, poly-signed, size-signed, sum-signed}
use Rattle.ln_verify.proofs.shared_poly.add_to.Goals as goal

pub sum-requires : goal.sum-requires
sum-requires c =
    let a : size_of c.in_ok-own.own ≡ size_of c.args.f =
    sym (size-signed c.g.inside.minus c.in_ok-own.own) ∙ ap (λ (z : Sparse). size_of z) c.in_ok-own.ensures in
    let b : size_of c.as_ref.result.now ≡ size_of c.args.g.now = ap (λ (z : Sparse). size_of z) c.as_ref.ensures
    ∙ sym (size-signed c.g.inside.minus c.g.inside.poly.value) ∙ ap (λ (z : Sparse). size_of z) c.g.view_is in
    omega (arith, a, b, c.requires)

pub returns : goal.returns
returns c =
    let a : size_of c.in_ok-own.own ≡ size_of c.args.f =
    sym (size-signed c.g.inside.minus c.in_ok-own.own) ∙ ap (λ (z : Sparse). size_of z) c.in_ok-own.ensures in
    let b : size_of c.as_ref.result.now ≡ size_of c.args.g.now = ap (λ (z : Sparse). size_of z) c.as_ref.ensures
    ∙ sym (size-signed c.g.inside.minus c.g.inside.poly.value) ∙ ap (λ (z : Sparse). size_of z) c.g.view_is in
    record {
      coefficients = λ n k.
          ap (λ (z : Sparse). coefficient_at n (signed c.g.inside.minus z) k) c.in_ok-poly.ensures.ok
          ∙ sum-signed c.g.inside.minus c.in_ok-own.own c.as_ref.result.now c.in_ok-s.s c.in_ok-s.ensures.coefficients n k
          ∙ ap (λ (z : Sparse). coefficient_at n z k +ℤ coefficient_at n (signed c.g.inside.minus c.as_ref.result.now) k) c.in_ok-own.ensures
          ∙ ap (λ (z : Sparse). coefficient_at n c.args.f k +ℤ coefficient_at n z k)
          (ap (λ (z : Sparse). signed c.g.inside.minus z) c.as_ref.ensures ∙ c.g.view_is);
      size = omega
          (arith, a, b, size-signed c.g.inside.minus c.in_ok-poly.poly.value, ap (λ (z : Sparse). size_of z) c.in_ok-poly.ensures.ok, c.in_ok-s.ensures.size);
      form = poly-signed c.g.inside.minus c.in_ok-poly.poly.value (subst IsPoly (sym c.in_ok-poly.ensures.ok) c.in_ok-s.ensures.form);
      below = λ n p q.
          below-signed n c.g.inside.minus c.in_ok-poly.poly.value
          (subst (AreBelow n) (sym c.in_ok-poly.ensures.ok)
          (c.in_ok-s.ensures.below n
          (below-bare n c.g.inside.minus c.in_ok-own.own (subst (AreBelow n) (sym c.in_ok-own.ensures) p))
          (subst (AreBelow n) (sym c.as_ref.ensures) (below-bare n c.g.inside.minus c.g.inside.poly.value (subst (AreBelow n) (sym c.g.view_is) q)))));
    }
