-- The remaining goals of `put_in`.
use Rattle.ln_poly.proofs.sums.put_in.Goals as goal

pub returns-then-stands_at : goal.returns-then-stands_at
returns-then-stands_at c = c.add_at.ensures _
