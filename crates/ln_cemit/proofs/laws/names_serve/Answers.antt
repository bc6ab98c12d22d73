-- Answers to the goals of `names_serve` in src/laws.rt.
use Rattle.ln_cemit.proofs.Conditions.Named.{names_serve}
use Rattle.ln_cemit.proofs.laws.names_serve.Goals as goal

pub returns : goal.returns
returns c = names_serve
