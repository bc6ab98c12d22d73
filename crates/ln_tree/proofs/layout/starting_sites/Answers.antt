use Rattle.std.proofs.Common.{arith, ap, ◌∙◌}
use Rattle.std.specs.Int.{from_bool}
use Rattle.ln_base.proofs.Counting.{counted_more, counted_fits}
use Rattle.ln_tree.specs.Variables.{starts_site}
use Rattle.ln_tree.proofs.layout.starting_sites.Goals as goal

pub overflow_add-n : goal.overflow_add-n
overflow_add-n c = omega (
  arith,
  counted_fits starts_site c.args.vars.now c.each.i-index c.each.n c.from-n.result _ c.each-test.true c.each.invariant
      (c.from-n.ensures ∙ ap from_bool c.starts_site.ensures),
)

pub each-preserved : goal.each-preserved
each-preserved c = counted_more starts_site c.args.vars.now c.each.i-index c.each.n c.from-n.result _ c.each-test.true c.each.invariant
    (c.from-n.ensures ∙ ap from_bool c.starts_site.ensures)
