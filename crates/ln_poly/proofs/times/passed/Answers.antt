use Rattle.std.proofs.Common.{arith}
use Rattle.ln_poly.proofs.Sorting.Merging.{none-passed, one-passed}
use Rattle.ln_poly.proofs.times.passed.Goals as goal

pub returns-then-i-a : goal.returns-then-i-a
returns-then-i-a c = none-passed _ _ _ c.requires.within c.requires.low (λ h q. absurd (omega (arith, h, c.if-i-a.true)))

pub returns : goal.returns
returns c = one-passed _ _ _ c.requires.rising (omega (arith, c.requires.within, c.if-i-a.false)) c.if-a-i.false
