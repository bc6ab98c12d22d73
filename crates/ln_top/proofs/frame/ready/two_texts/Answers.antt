use Rattle.std.proofs.Common.{◌∙◌}
use Rattle.ln_top.proofs.FrameLemmas.ReadyLaws.{two_texts}
use Rattle.ln_top.proofs.frame.ready.two_texts.Goals as goal

pub returns : goal.returns
returns c = λ given s.
    let first = rw c.as_slice-texts.ensures.value at c.index-texts-0.is in
    let second = rw c.as_slice-texts.ensures.value at c.index-texts-1.is in
    rw (c.as_slice.ensures.value, c.as_slice-2.ensures.value) (s.texts ∙ two_texts (λ t. t.items) _ _ _ c.requires.two first second)
