use Rattle.std.proofs.Common.{All, take}
use Rattle.ln_stage.specs.Symmetry.{IsPartner}
use Rattle.ln_stage.proofs.symmetry.has_partner.Given as goal

abbrev pub invariant-terms : goal.invariant-terms
invariant-terms l = All (λ u. IsPartner l.vars l.j l.d l.y l.t u → ⊥) (take l.u-index l.f)
