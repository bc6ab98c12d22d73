use Rattle.std.proofs.Common.{arith, refl}
use Rattle.ln_poly.proofs.Packing.Fields.{laid-begin, laid-end, laid-step}
use Rattle.ln_poly.proofs.fields.Fields.of.Goals as goal

pub vars-init : goal.vars-init
vars-init g c = laid-begin _ g.row.N _ _ c.requires.words.0 refl refl

pub vars-preserved : goal.vars-preserved
vars-preserved g c = laid-step _ g.row.N _ _ _ c.bits.result c.vars.v c.vars.invariant (omega (arith, c.vars-test.true)) c.bits.ensures.enough
    (omega (arith, c.place-left.ensures.below, c.if-left-width.false, c.from-width.ensures)) c.place-left.ensures.place c.bits.ensures.small
    (λ h. c.place-left.ensures.many (omega (arith, h, c.from-width.ensures)))

pub invariant_of-result : goal.invariant_of-result
invariant_of-result g c = record { places = c.vars.invariant.places; long = c.vars.invariant.long; few = c.requires.words.1 }

pub returns-clause-fields : goal.returns-clause-fields
returns-clause-fields g c = laid-end _ g.row.N _ _ c.vars.v c.vars.invariant (omega (arith, c.vars-test.false))
