use Rattle.ln_poly.proofs.Packing.Words.{IsSum}
use Rattle.ln_poly.proofs.key.Key.sum.Given as goal

abbrev pub invariant-words : goal.invariant-words
invariant-words g l = IsSum g.row.N l.self-inside.words l.other-inside.words l.words l.carry l.i
