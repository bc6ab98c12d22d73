-- Answers to the goals of `short_text` in src/frame/ready.rt.
use Rattle.ln_top.proofs.FrameLemmas.ReadyLaws.{one_short}
use Rattle.ln_top.proofs.frame.ready.short_text.Goals as goal

pub returns-clause-short : goal.returns-clause-short
returns-clause-short c = one_short _ _ (c.one_text.ensures c.requires.stands.given c.requires.stands.stands) c.requires.stands.short
