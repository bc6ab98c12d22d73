use Rattle.std.proofs.Common.{◌<◌, [], ◌∷◌, ◌++◌, ◌∙◌, ap, arith, length, refl, rules}
use Rattle.std.proofs.lemmas.List.Elements.{All-get_or}
use Rattle.ln_poly.specs.Packed.{pairs_from}
use Rattle.ln_poly.specs.Words.{IsPlace}
use Rattle.ln_poly.proofs.Packing.Fields.{opening-end, opening-small, opening-step}
use Rattle.std.proofs.lemmas.Bool.{iff_false}
use Rattle.ln_poly.proofs.fields.Fields.unpacked.Goals as goal
use Rattle.ln_poly.proofs.fields.Fields.unpacked.Goals.{then-vars-test+else-is_below, else-vars-test}

pub take-e-requires : goal.take-e-requires
take-e-requires g c =
    let l : c.vars.v < length c.args.self.now.shifts = omega (arith, c.vars-test.true, c.args.self.now.long) in
    let place = All-get_or (IsPlace g.row.N) c.args.self.now.shifts c.vars.v 0 l c.args.self.now.places in
    let small = opening-small c.args.self.now.shifts _ _ _ c.vars.v _ c.vars.invariant l refl in
    (search rules, (place, small))

pub put_exponent-requires-clause-small : goal.put_exponent-requires-clause-small
put_exponent-requires-clause-small g c = omega (
  arith,
  c.take-e.ensures.exponent,
  opening-small c.args.self.now.shifts _ _ _ c.vars.v _ c.vars.invariant (omega (arith, c.vars-test.true, c.args.self.now.long)) refl,
)

pub vars-preserved : goal.vars-preserved
vars-preserved g c =
    opening-step c.args.self.now.shifts c.args.n _ _ c.vars.rest _ c.vars.v _ c.vars.invariant (omega (arith, c.vars-test.true))
    (omega (arith, c.vars-test.true, c.args.self.now.long)) refl
    (c.in_ok-put_exponent.ensures ∙ ap (λ z. c.vars.out ++ pairs_from c.vars.v (z ∷ [])) c.take-e.ensures.exponent) c.take-e.ensures.rest

pub returns : goal.returns
returns g c =
    opening-end c.args.self.now.shifts c.args.n c.vars.out c.vars.rest c.vars.v c.vars.invariant
    (elim c.vars-test.branch [
      | then-vars-test+else-is_below w ↦ λ _ r. omega (arith, r, c.zero-zero.ensures, iff_false w.is_below.ensures w.if-is_below.false)
      | else-vars-test w ↦ λ l _. omega (arith, l, w.vars-test.false)
    ])
    c.args.self.now.long
