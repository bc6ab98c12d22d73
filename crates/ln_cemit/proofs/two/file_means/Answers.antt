-- Answers to the goals of `file_means` in src/two.rt.
use Rattle.ln_cemit.proofs.Choices.Files.{file-means}
use Rattle.ln_cemit.proofs.two.file_means.Goals as goal

pub returns : goal.returns
returns c = file-means
