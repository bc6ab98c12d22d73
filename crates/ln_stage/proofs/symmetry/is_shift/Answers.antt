use Rattle.std.proofs.Common.{◌≡◌, true, false, arith, rules}
use Rattle.ln_stage.proofs.Testing.Variables.{ShiftsAt, below_next, no_shift_above, no_shift_below, shift_all}
use Rattle.ln_stage.proofs.symmetry.is_shift.Goals as goal

pub returns-then-not-has_above : goal.returns-then-not-has_above
returns-then-not-has_above c =
    let q : c.has_above.result ≡ false = search rules in
    no_shift_above c.args.vars.now c.args.j c.args.d c.variables.v c.has_above.result c.has_above.ensures q

pub returns-then-not-has_below : goal.returns-then-not-has_below
returns-then-not-has_below c =
    let q : c.has_below.result ≡ false = search rules in
    no_shift_below c.args.vars.now c.args.j c.args.d c.variables.v c.has_below.result c.has_below.ensures q

pub variables-preserved : goal.variables-preserved
variables-preserved c =
    let q : c.has_above.result ≡ true = search rules in
    let r : c.has_below.result ≡ true = search rules in
    below_next (ShiftsAt c.args.vars.now c.args.j c.args.d) c.variables.v
    (record { above = c.has_above.ensures.0 q; below = c.has_below.ensures.0 r }) c.variables.invariant

pub returns : goal.returns
returns c = shift_all c.args.vars.now c.args.j c.args.d c.variables.v (omega (arith, c.variables-test.false)) c.variables.invariant
