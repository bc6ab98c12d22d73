use Rattle.ln_bound.specs.View.{typed}
use Rattle.ln_nest.proofs.Forms.Steps.{times_fits}
use Rattle.ln_nest.proofs.horner.scaled.Goals as goal

pub times-requires : goal.times-requires
times-requires c = times_fits (typed c.in_ok-x.x) (typed c.args.h) _ c.in_ok-x.ensures.small c.requires.product

pub returns : goal.returns
returns c = record { by = typed c.in_ok-x.x; own = c.in_ok-x.ensures; is = c.in_ok-t.ensures }
