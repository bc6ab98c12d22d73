use Rattle.std.proofs.Common.{sym, ◌∙◌}
use Rattle.ln_tree.specs.Variables.{is_var}
use Rattle.ln_tree.proofs.Searching.{place_found, no_place}
use Rattle.ln_tree.proofs.layout.place_in.Goals as goal

pub returns-then-is_var : goal.returns-then-is_var
returns-then-is_var c = place_found (is_var c.args.v.arg c.args.v.coord) c.args.vars.now c.each.k _ c.each-test.true
    (sym c.is_var.ensures ∙ c.if-is_var.true) c.each.invariant

pub returns : goal.returns
returns c = no_place (is_var c.args.v.arg c.args.v.coord) c.args.vars.now c.each.k c.each-test.false c.each.invariant
