use Rattle.std.proofs.Common.{◌+◌, arith}
use Rattle.ln_nest.proofs.Terms.Vectors.{pushed}
use Rattle.ln_nest.proofs.work.spread.Goals as goal

pub variables-preserved : goal.variables-preserved
variables-preserved c = pushed c.variables.v (c.variables.v + 1) c.args.pairs.now c.variables.out.items c.push.new.self.items
    c.exponent_of.result c.variables.invariant (omega arith) c.exponent_of.ensures.value c.in_ok-push.ensures.items
