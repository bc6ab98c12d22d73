use Rattle.ln_poly.proofs.TermLists.Walks.{walked}
use Rattle.ln_poly.proofs.arithmetic.walk.Goals as goal

pub seal-requires : goal.seal-requires
seal-requires c = rw c.from_vec.ensures (walked _ _ _ c.in_ok-put_row.ensures c.requires.form c.requires.factor c.requires.room)
