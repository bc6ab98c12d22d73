use Rattle.std.proofs.Common.{◌∙◌, arith}
use Rattle.std.proofs.Math.ListN.{length-set}
use Rattle.ln_factor.proofs.Places.{all-filled, filled-more, made-here, made-more, range-here}
use Rattle.ln_factor.proofs.product.fill.Goals as goal

pub factor_row-verdict-requires-clause-made : goal.factor_row-verdict-requires-clause-made
factor_row-verdict-requires-clause-made c =
    made-here c.args.ps.now c.args.which.now c.args.r.now c.factors.k c.factors-test.true c.factors.s c.index-s-k.result
    c.factors.invariant.made

pub factor_row-verdict-requires-clause-range : goal.factor_row-verdict-requires-clause-range
factor_row-verdict-requires-clause-range c =
    range-here c.args.ps.now c.args.which.now c.args.r.now c.factors.k c.factors-test.true c.requires.row

pub factors-preserved : goal.factors-preserved
factors-preserved c = record {
  made =
      made-more c.args.ps.now c.args.which.now c.args.r.now c.factors.k c.factors-test.true c.factors.s
      c.factor_row-verdict.new.s c.factors.invariant.made c.factor_row-verdict.ensures.made;
  size = length-set c.factors.out c.factors.k c.factor_row-verdict.result ∙ c.factors.invariant.size;
  each =
      filled-more c.args.ps.now c.args.which.now c.args.r.now c.factors.k c.factors-test.true c.factors.out
      c.factor_row-verdict.result c.factors.invariant.size c.factors.invariant.each c.factor_row-verdict.ensures.verdict;
}

pub returns-clause-verdicts : goal.returns-clause-verdicts
returns-clause-verdicts c =
    all-filled c.args.ps.now c.args.which.now c.args.r.now c.factors.k c.factors.out c.factors.invariant.size
    (λ l. absurd (omega (arith, l, c.factors-test.false))) c.factors.invariant.each
