use Rattle.std.proofs.Common.{◌∙◌, take, rules, FitsSigned}
use Rattle.std.proofs.lemmas.Int.{to_z-of_z}
use mir.Syntax.{w128}
use Rattle.ln_nest.specs.Nested.{total}
use Rattle.ln_nest.specs.View.{terms_in}
use Rattle.ln_nest.proofs.Forms.Steps.{sum_step, sum_fits, small_sum, sum_next}
use Rattle.ln_nest.proofs.work.constant.Goals as goal

pub overflow_add-sum : goal.overflow_add-sum
overflow_add-sum c =
    let f : FitsSigned w128 c.term-item.result.factor = search rules in
    let m = sum_fits c.args.terms.now c.loop-term.term-index c.term-item.result c.loop-term-test.true c.term-item.is in
    small_sum _ _ (total (terms_in (take c.loop-term.term-index c.args.terms.now))) c.term-item.result.factor _ c.loop-term.invariant
    (to_z-of_z w128 c.term-item.result.factor f) m c.requires

pub loop-term-preserved : goal.loop-term-preserved
loop-term-preserved c =
    let f : FitsSigned w128 c.term-item.result.factor = search rules in
    let m = sum_fits c.args.terms.now c.loop-term.term-index c.term-item.result c.loop-term-test.true c.term-item.is in
    to_z-of_z w128 _ (small_sum _ _ (total (terms_in (take c.loop-term.term-index c.args.terms.now))) c.term-item.result.factor _
    c.loop-term.invariant (to_z-of_z w128 c.term-item.result.factor f) m c.requires)
    ∙ sum_next _ _ (total (terms_in (take c.loop-term.term-index c.args.terms.now))) c.term-item.result.factor _ c.loop-term.invariant
    (to_z-of_z w128 c.term-item.result.factor f) (sum_step c.args.terms.now c.loop-term.term-index c.term-item.result c.loop-term-test.true c.term-item.is)
