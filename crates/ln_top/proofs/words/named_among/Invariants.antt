-- The loop of `named_among` in src/words.rt.
use Rattle.std.proofs.Common.{◌≡◌, drop}
use Rattle.ln_top.specs.Plan.{named_among}
use Rattle.ln_top.proofs.words.named_among.Given as goal

abbrev pub invariant-commands : goal.invariant-commands
invariant-commands l = named_among l.word (drop l.command-index l.commands) ≡ named_among l.word l.commands
