use Rattle.std.proofs.Common.{◌≡◌, arith, ◌∙◌, ap, sym, slice_index_or, length}
use Rattle.ln_nest.specs.Nested.{is_positive, exponent_of}
use Rattle.ln_nest.proofs.Terms.Vectors.{exponent_is, exponent_none, is_test}
use Rattle.ln_nest.proofs.work.has.Goals as goal

pub returns-in-None : goal.returns-in-None
returns-in-None c =
    let h = c.in-None.ensures.lookup in
    exponent_none c.args.v c.args.term.now.exponents.items (omega (arith, h.3, ap length c.deref.ensures.value))

pub returns-in-Some : goal.returns-in-Some
returns-in-Some c =
    let h = c.in-Some.ensures.lookup in
    let e : c.in-Some.e.now ≡ exponent_of c.args.v c.args.term.now.exponents.items =
    h.3.1 0 ∙ ap (λ s. slice_index_or s c.args.v 0) c.deref.ensures.value ∙ sym (exponent_is c.args.v c.args.term.now.exponents.items) in
    is_test c.in-Some.e.now ∙ ap is_positive e
