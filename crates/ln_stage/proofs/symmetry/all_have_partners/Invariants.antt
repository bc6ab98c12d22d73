use Rattle.std.proofs.Common.{All, take}
use Rattle.ln_stage.specs.Symmetry.{HasPartner}
use Rattle.ln_stage.proofs.symmetry.all_have_partners.Given as goal

abbrev pub invariant-terms : goal.invariant-terms
invariant-terms l = All (λ t. HasPartner l.vars l.j l.d l.y l.f t) (take l.t-index l.f)
