-- Answers to the goals of `emitted_means` in src/laws.rt.
use Rattle.ln_cemit.proofs.Meanings.Blocks.{emitted_means}
use Rattle.ln_cemit.proofs.laws.emitted_means.Goals as goal

pub returns : goal.returns
returns c = emitted_means
