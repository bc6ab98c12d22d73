use Rattle.ln_order.proofs.Listing.PrefixLemmas.{fronts-are-prefixes}
use Rattle.ln_order.proofs.prefix.fronts_are_prefixes.Goals as goal

pub returns : goal.returns
returns c = fronts-are-prefixes
