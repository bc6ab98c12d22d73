use Rattle.ln_algebra.proofs.Exchanging.Tests.{terms-turn}
use Rattle.ln_algebra.proofs.exchanges.terms_turn.Goals as goal

pub returns : goal.returns
returns c = terms-turn
