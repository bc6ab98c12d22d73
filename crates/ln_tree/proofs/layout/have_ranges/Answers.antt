use Rattle.std.proofs.Common.{sym, ◌∙◌}
use Rattle.ln_tree.specs.Variables.{has_range}
use Rattle.ln_tree.proofs.Searching.{all_broken, all_on, all_passed}
use Rattle.ln_tree.proofs.layout.have_ranges.Goals as goal

pub returns-then-not-has_range : goal.returns-then-not-has_range
returns-then-not-has_range c =
    all_broken has_range c.args.vars.now c.each.i-index _ c.each-test.true (sym c.has_range.ensures ∙ c.if-not-has_range.true) c.each.invariant

pub each-preserved : goal.each-preserved
each-preserved c = all_on has_range c.args.vars.now c.each.i-index _ c.each-test.true (sym c.has_range.ensures ∙ c.if-not-has_range.false) c.each.invariant

pub returns : goal.returns
returns c = all_passed has_range c.args.vars.now c.each.i-index c.each-test.false c.each.invariant
