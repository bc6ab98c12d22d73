use Rattle.std.proofs.Common.{◌≡◌, ◌-◌, drop}
use Rattle.ln_poly.proofs.key.Key.order.Given as goal

abbrev pub invariant-words : goal.invariant-words
invariant-words g l = drop (g.row.N - l.k) l.self-inside.words ≡ drop (g.row.N - l.k) l.other-inside.words
