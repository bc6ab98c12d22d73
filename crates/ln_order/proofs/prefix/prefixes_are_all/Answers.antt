use Rattle.ln_order.proofs.Listing.PrefixLemmas.{prefixes-are-all}
use Rattle.ln_order.proofs.prefix.prefixes_are_all.Goals as goal

pub returns : goal.returns
returns c = prefixes-are-all
