use Rattle.std.proofs.Common.{arith, sym, get_or}
use Rattle.ln_tree.proofs.Powers.{exponent-more, found, power-apart, small-at}
use Rattle.ln_tree.proofs.exps.exponent_of.Goals as goal

pub returns-then-p-v-clause-value : goal.returns-then-p-v-clause-value
returns-then-p-v-clause-value c = sym (found _ _ c.pairs.p-index c.requires (omega arith) c.if-p-v.true)

pub returns-then-p-v-clause-small : goal.returns-then-p-v-clause-small
returns-then-p-v-clause-small c = small-at _ _ c.requires (omega arith)

pub pairs-preserved : goal.pairs-preserved
pairs-preserved c = omega (
  arith,
  c.pairs.invariant,
  exponent-more c.args.v c.args.pairs.now c.pairs.p-index (omega arith),
  power-apart c.args.v (get_or c.args.pairs.now c.pairs.p-index (0, 0)) c.if-p-v.false,
)
