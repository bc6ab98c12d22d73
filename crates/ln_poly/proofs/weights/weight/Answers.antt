use Rattle.ln_poly.specs.Sparse.{terms_of}
use Rattle.std.proofs.Common.{length}
use Rattle.ln_poly.proofs.Loads.Weighing.{as-sizes}
use Rattle.ln_poly.proofs.weights.weight.Goals as goal

pub returns : goal.returns
returns c = as-sizes c.total.result c.args.s.now.vars (terms_of (length c.args.s.now.vars) c.args.f.now) c.total.ensures
