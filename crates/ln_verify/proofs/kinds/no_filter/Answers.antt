-- Answers to the goals of `no_filter` in src/kinds.rt.
use Rattle.ln_verify.proofs.Engines.AtSpots.{named-gap}
use Rattle.ln_verify.proofs.kinds.no_filter.Goals as goal

pub returns : goal.returns
returns c v p = named-gap v p c.args.state.now c.new.result c.new.ensures
