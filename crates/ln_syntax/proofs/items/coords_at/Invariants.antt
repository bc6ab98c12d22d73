use Rattle.std.proofs.Common.{length, ◌-◌}
use Rattle.ln_syntax.proofs.Spellings.Parts.{CoordsRead}
use Rattle.ln_syntax.proofs.items.coords_at.Given as goal

abbrev pub invariant-coords : goal.invariant-coords
invariant-coords l = CoordsRead l.ts l.at l.place l.coords.items

abbrev pub decreases-coords : goal.decreases-coords
decreases-coords l = length l.ts - l.place
