use Rattle.std.proofs.Common.{arith, ap, ◌∙◌}
use Rattle.std.specs.Int.{from_bool}
use Rattle.ln_base.proofs.Counting.{counted_more, counted_fits}
use Rattle.ln_tree.specs.Variables.{is_param}
use Rattle.ln_tree.proofs.Searching.{none_by}
use Rattle.ln_tree.proofs.layout.params.Goals as goal

pub overflow_add-n : goal.overflow_add-n
overflow_add-n c = omega (
  arith,
  counted_fits is_param c.args.vars.now c.each.i-index c.each.n c.from-n.result _ c.each-test.true c.each.invariant
      (c.from-n.ensures ∙ ap from_bool (none_by _ _ c.is_none.ensures)),
)

pub each-preserved : goal.each-preserved
each-preserved c = counted_more is_param c.args.vars.now c.each.i-index c.each.n c.from-n.result _ c.each-test.true c.each.invariant
    (c.from-n.ensures ∙ ap from_bool (none_by _ _ c.is_none.ensures))
