use Rattle.ln_poly.proofs.Loads.Sizing.{light-pred, size-degrees}
use Rattle.ln_poly.proofs.sizes.sizes_make_room.Goals as goal

pub returns-clause-expand : goal.returns-clause-expand
returns-clause-expand c = light-pred

pub returns-clause-degrees : goal.returns-clause-degrees
returns-clause-degrees c = size-degrees
