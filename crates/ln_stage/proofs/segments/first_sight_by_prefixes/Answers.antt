use Rattle.ln_stage.proofs.Sights.FirstSightLemmas.{first-sight-by-prefixes, segments-are-fewer}
use Rattle.ln_stage.proofs.segments.first_sight_by_prefixes.Goals as goal

pub returns-clause-same : goal.returns-clause-same
returns-clause-same c = first-sight-by-prefixes

pub returns-clause-fewer : goal.returns-clause-fewer
returns-clause-fewer c = segments-are-fewer
