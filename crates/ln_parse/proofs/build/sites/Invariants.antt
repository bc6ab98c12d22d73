use Rattle.ln_parse.specs.Says.{site_of, site_said}
use Rattle.ln_parse.proofs.Building.Said.{SaidOn}
use Rattle.ln_parse.proofs.build.sites.Given as goal

abbrev pub invariant-items : goal.invariant-items
invariant-items l = SaidOn (site_said l.bytes) site_of l.its l.it-index l.sites
