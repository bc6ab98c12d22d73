use Rattle.std.proofs.Common.{take}
use Rattle.ln_poly.specs.Sums.{IsSpread}
use Rattle.ln_poly.proofs.sums.spread.Given as goal

abbrev pub invariant-loop-t : goal.invariant-loop-t
invariant-loop-t l = IsSpread l.initial.f.items (take l.t-index l.g) l.f.items l.more.items
