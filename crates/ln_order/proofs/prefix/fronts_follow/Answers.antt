use Rattle.ln_order.proofs.Listing.PrefixLemmas.{fronts-follow}
use Rattle.ln_order.proofs.prefix.fronts_follow.Goals as goal

pub returns : goal.returns
returns c = fronts-follow
