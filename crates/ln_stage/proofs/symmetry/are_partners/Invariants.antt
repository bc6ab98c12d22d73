use Rattle.std.proofs.Common.{◌≡◌, ◌<◌, ℕ}
use Rattle.ln_tree.specs.Exps.{exponent}
use Rattle.ln_order.specs.Exchanged.{partner_at}
use Rattle.ln_stage.proofs.symmetry.are_partners.Given as goal

abbrev pub invariant-variables : goal.invariant-variables
invariant-variables l = (v : ℕ) → v < l.v → exponent v l.u ≡ exponent (partner_at l.vars l.j l.d v) l.t
