use Rattle.std.proofs.Common.{◌-◌}
use Rattle.ln_rows.proofs.Records.PlainLemmas.{Read}
use Rattle.ln_rows.proofs.plain.digits.Given as goal

abbrev pub invariant-digits : goal.invariant-digits
invariant-digits l = Read l.text l.most l.at l.n

abbrev pub decreases-digits : goal.decreases-digits
decreases-digits l = l.most - l.at
