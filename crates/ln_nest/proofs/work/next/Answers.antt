use Rattle.std.proofs.Common.{◌≡◌, refl, arith, ◌∙◌, ap, sym, min, slice_index_or, length, if◌then◌else◌}
use Rattle.ln_nest.specs.Nested.{is_positive, exponent_of}
use Rattle.ln_nest.proofs.Terms.Vectors.{exponent_is, exponent_none, is_test}
use Rattle.ln_nest.proofs.work.next.Goals as goal

pub returns-in-None : goal.returns-in-None
returns-in-None c =
    let h = c.in-None.ensures.lookup in
    let z = exponent_none c.args.v c.args.term.now.exponents.items (omega (arith, h.3, ap length c.deref.ensures.value)) in
    rw (← z) refl

pub returns-in-Some : goal.returns-in-Some
returns-in-Some c =
    let h = c.in-Some.ensures.lookup in
    let e : c.in-Some.e.now ≡ exponent_of c.args.v c.args.term.now.exponents.items =
    h.3.1 0 ∙ ap (λ s. slice_index_or s c.args.v 0) c.deref.ensures.value ∙ sym (exponent_is c.args.v c.args.term.now.exponents.items) in
    c.lesser.ensures ∙ ap (λ b. if b then min c.args.b c.in-Some.e.now else c.args.b) (is_test c.in-Some.e.now)
    ∙ ap (λ x. if is_positive x then min c.args.b x else c.args.b) e
