use Rattle.ln_top.proofs.FrameLemmas.Carry.{text_carried}
use Rattle.ln_top.proofs.judges.edges.put_edges.Goals as goal

pub returns : goal.returns
returns g c =
    λ given s. text_carried _ _ _ _ _ _ _ _ _ _ (c.in_ok-text.ensures given s) (rw c.deref.ensures.value at c.put_text.ensures)
