-- Answers to the goals of `lines_of` in src/listings.rt.
use Rattle.std.proofs.Common.{arith, ap, length}
use Rattle.ln_verify.proofs.Judging.Subjects.{entries-few}
use Rattle.ln_verify.proofs.listings.lines_of.Goals as goal

pub returns-clause-few : goal.returns-clause-few
returns-clause-few c = omega (arith, ap length c.entries.ensures.value, entries-few c.args.l.now c.entries.ensures.kept)
