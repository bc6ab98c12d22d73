use Rattle.std.proofs.Common.{◌∙◌}
use Rattle.ln_top.proofs.FrameLemmas.ReadyLaws.{one_text}
use Rattle.ln_top.proofs.frame.ready.one_text.Goals as goal

pub returns : goal.returns
returns c = λ given s.
    let there = rw c.as_slice.ensures.value at c.index-as_slice-0.is in
    rw c.as_slice-2.ensures.value (s.texts ∙ one_text (λ t. t.items) _ _ c.requires.one there)
