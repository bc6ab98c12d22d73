use Rattle.std.proofs.Common.{◌≡◌, true, false, arith, rules}
use Rattle.ln_stage.proofs.Testing.Terms.{factor-small, partners_end, partners_missing, partners_more}
use Rattle.ln_stage.proofs.symmetry.all_have_partners.Goals as goal

pub has_partner-requires-clause-small : goal.has_partner-requires-clause-small
has_partner-requires-clause-small c =
    factor-small c.args.f.now c.terms.t-index c.t-item.result (omega (arith, c.terms-test.true)) c.t-item.is c.requires.form

pub returns-then-not-has_partner : goal.returns-then-not-has_partner
returns-then-not-has_partner c =
    let q : c.has_partner.result ≡ false = search rules in
    partners_missing c.args.vars.now c.args.j c.args.d c.terms.t-index c.args.y c.args.f.now c.t-item.result c.has_partner.result
    (omega (arith, c.terms-test.true)) c.t-item.is c.has_partner.ensures q

pub terms-preserved : goal.terms-preserved
terms-preserved c =
    let q : c.has_partner.result ≡ true = search rules in
    partners_more c.args.vars.now c.args.j c.args.d c.terms.t-index c.args.y c.args.f.now c.t-item.result c.has_partner.result
    (omega (arith, c.terms-test.true)) c.t-item.is c.has_partner.ensures q c.terms.invariant

pub returns : goal.returns
returns c =
    partners_end c.args.vars.now c.args.j c.args.d c.terms.t-index c.args.y c.args.f.now (omega (arith, c.terms-test.false)) c.terms.invariant
