use Rattle.std.proofs.Common.{◌≡◌, true, false, arith, rules}
use Rattle.ln_stage.proofs.Testing.Terms.{partner_found, partner_next, partner_none}
use Rattle.ln_stage.proofs.symmetry.has_partner.Goals as goal

pub returns-then-is_partner : goal.returns-then-is_partner
returns-then-is_partner c =
    let q : c.is_partner.result ≡ true = search rules in
    partner_found c.args.vars.now c.args.j c.args.d c.terms.u-index c.args.y c.args.f.now c.args.t.now c.u-item.result c.is_partner.result
    (omega (arith, c.terms-test.true)) c.u-item.is c.is_partner.ensures q

pub terms-preserved : goal.terms-preserved
terms-preserved c =
    let q : c.is_partner.result ≡ false = search rules in
    partner_next c.args.vars.now c.args.j c.args.d c.terms.u-index c.args.y c.args.f.now c.args.t.now c.u-item.result c.is_partner.result
    (omega (arith, c.terms-test.true)) c.u-item.is c.is_partner.ensures q c.terms.invariant

pub returns : goal.returns
returns c =
    partner_none c.args.vars.now c.args.j c.args.d c.terms.u-index c.args.y c.args.f.now c.args.t.now (omega (arith, c.terms-test.false)) c.terms.invariant
