use Rattle.ln_stage.proofs.Sights.SightLemmas.{first-seen-sighted}
use Rattle.ln_stage.proofs.laws.first_seen_are_sighted.Goals as goal

pub returns : goal.returns
returns c = first-seen-sighted
