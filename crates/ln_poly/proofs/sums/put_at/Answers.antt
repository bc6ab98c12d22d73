-- The remaining goals of `put_at`.
use Rattle.ln_poly.specs.Sums.{missed}
use Rattle.ln_poly.proofs.sums.put_at.Goals as goal

pub returns-then-stands_at : goal.returns-then-stands_at
returns-then-stands_at c = c.add_at.ensures _

pub returns : goal.returns
returns c = λ old g s. rw c.in_ok-push.ensures (missed g _ _ _ s)
