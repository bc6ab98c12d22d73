-- Answers to the goals of `within` in src/made.rt.
use Rattle.ln_verify.proofs.Values.Ranges.{on-some, small-enough, too-large}
use Rattle.ln_verify.proofs.made.within.Goals as goal

pub returns-then-size-gt-MOST-clause-rule : goal.returns-then-size-gt-MOST-clause-rule
returns-then-size-gt-MOST-clause-rule g c s t r z h = too-large g.L.Limits.known t c.args.size s r z c.args.found c.if-size-gt-MOST.true h

pub returns-clause-small : goal.returns-clause-small
returns-clause-small g c = on-some c.args.found c.if-size-gt-MOST.false

pub returns-clause-rule : goal.returns-clause-rule
returns-clause-rule g c s t r z h = small-enough g.L.Limits.known t c.args.size s r z c.args.found c.if-size-gt-MOST.false h
