use Rattle.ln_stage.proofs.Walks.SiteWalkLemmas.{lists-are-walked-by-prefixes, walk-goes-site-by-site, walks-are-segments}
use Rattle.ln_stage.proofs.segments.walk_goes_site_by_site.Goals as goal

pub returns-clause-step : goal.returns-clause-step
returns-clause-step c = walk-goes-site-by-site

pub returns-clause-lists : goal.returns-clause-lists
returns-clause-lists c = lists-are-walked-by-prefixes

pub returns-clause-segments : goal.returns-clause-segments
returns-clause-segments c = walks-are-segments
