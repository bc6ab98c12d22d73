-- Answers to the goals of `put` in src/spell.rt.
use Rattle.ln_csyn.proofs.Writing.PutLemmas.{puts_one}
use Rattle.ln_csyn.proofs.spell.put.Goals as goal

pub returns : goal.returns
returns c = puts_one c.args.out.now.items _ _ c.args.text.now c.in_ok-extend_from_slice.ensures.items c.in_ok-push.ensures.items
