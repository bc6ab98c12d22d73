use Rattle.ln_poly.proofs.Packing.Words.{value-zero}
use Rattle.ln_poly.proofs.key.Key.zero.Goals as goal

pub returns : goal.returns
returns g c = value-zero g.row.N
