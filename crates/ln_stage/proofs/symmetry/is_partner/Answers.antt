use Rattle.std.proofs.Common.{◌≡◌, true, false, rules}
use Rattle.ln_stage.proofs.Testing.Terms.{factor_there, partner_by, partner_not}
use Rattle.ln_stage.proofs.symmetry.is_partner.Goals as goal

pub returns-then-not-factor_turns : goal.returns-then-not-factor_turns
returns-then-not-factor_turns c =
    let q : c.factor_turns.result ≡ false = search rules in
    partner_not c.args.vars.now c.args.j c.args.d c.args.y c.args.t.now c.args.u.now c.factor_turns.result
    (factor_there c.args.y _ _ c.args.t.now.1 c.args.u.now.1 c.factor_turns.result c.factor_turns.ensures (search rules) (search rules)) q

pub returns : goal.returns
returns c =
    let q : c.factor_turns.result ≡ true = search rules in
    partner_by c.args.vars.now c.args.j c.args.d c.args.y c.args.t.now c.args.u.now c.pairs.result.now c.pairs-2.result.now c.factor_turns.result
    c.are_partners.result
    (factor_there c.args.y _ _ c.args.t.now.1 c.args.u.now.1 c.factor_turns.result c.factor_turns.ensures (search rules) (search rules))
    q c.pairs.ensures.value c.pairs-2.ensures.value c.are_partners.ensures
