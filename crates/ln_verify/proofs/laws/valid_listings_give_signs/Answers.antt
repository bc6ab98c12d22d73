-- Answers to the goals of `valid_listings_give_signs` in src/laws.rt.
use Rattle.ln_verify.proofs.Validity.Tells.{signs-told}
use Rattle.ln_verify.proofs.laws.valid_listings_give_signs.Goals as goal

pub returns : goal.returns
returns c = signs-told
