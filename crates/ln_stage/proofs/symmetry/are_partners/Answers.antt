use Rattle.std.proofs.Common.{◌≡◌, ◌≢◌, ◌∙◌, arith, rules, sym}
use Rattle.ln_tree.specs.Exps.{exponent}
use Rattle.ln_order.specs.Exchanged.{partner_at}
use Rattle.ln_stage.proofs.Testing.Variables.{below_next}
use Rattle.ln_stage.proofs.Testing.Terms.{partners_all, partners_not}
use Rattle.ln_stage.proofs.symmetry.are_partners.Goals as goal

pub partner_exponent-requires-clause-within : goal.partner_exponent-requires-clause-within
partner_exponent-requires-clause-within c =
    let w = c.requires.within c.variables.v (omega (arith, c.variables-test.true)) in
    omega (arith, w, c.requires.few)

pub returns-then-exponent_of-partner_exponent : goal.returns-then-exponent_of-partner_exponent
returns-then-exponent_of-partner_exponent c =
    let q : c.exponent_of.result ≢ c.partner_exponent.result = search rules in
    partners_not c.args.vars.now c.args.j c.args.d c.variables.v c.exponent_of.result c.partner_exponent.result c.args.t.now c.args.u.now
    c.requires.within (omega (arith, c.variables-test.true)) c.exponent_of.ensures.value c.partner_exponent.ensures q

pub variables-preserved : goal.variables-preserved
variables-preserved c =
    let q : c.exponent_of.result ≡ c.partner_exponent.result = search rules in
    below_next (λ v. exponent v c.args.u.now ≡ exponent (partner_at c.args.vars.now c.args.j c.args.d v) c.args.t.now) c.variables.v
    (sym c.exponent_of.ensures.value ∙ q ∙ c.partner_exponent.ensures) c.variables.invariant

pub returns : goal.returns
returns c =
    partners_all c.args.vars.now c.args.j c.args.d c.variables.v c.args.t.now c.args.u.now c.requires.within
    (omega (arith, c.variables-test.false)) c.variables.invariant
