-- What the search leaves open in `mul`.
use Rattle.std.proofs.Common.{refl}
use Rattle.ln_interval.specs.View.{range}
use Rattle.ln_interval.proofs.Ends.{product_past}
use Rattle.ln_interval.proofs.pair.Pair.mul.Goals as goal

pub returns-then-is_past : goal.returns-then-is_past
returns-then-is_past c = product_past (range c.args.self) (range c.args.o) c.magnitude.result c.magnitude-2.result c.magnitude.ensures.value
    c.magnitude-2.ensures.value (c.if-is_past.ensures.0 refl)
