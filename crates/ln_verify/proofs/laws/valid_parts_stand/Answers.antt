-- Answers to the goals of `valid_parts_stand` in src/laws.rt.
use Rattle.ln_verify.proofs.Judging.Put.{valid-stands}
use Rattle.ln_verify.proofs.laws.valid_parts_stand.Goals as goal

pub returns : goal.returns
returns c = valid-stands
