use Rattle.std.proofs.Common.{arith}
use Rattle.std.proofs.lemmas.List.{get_or-replicate}
use Rattle.ln_poly.proofs.binomials.column.Goals as goal

pub raises-init : goal.raises-init
raises-init c = λ j h. get_or-replicate 128 j 1 0 (omega (arith, h, c.requires))
