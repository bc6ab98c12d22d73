use Rattle.std.proofs.Common.{length, ◌-◌}
use Rattle.ln_lex.proofs.Scanned.{Scanned}
use Rattle.ln_lex.proofs.scan.tokens.Given as goal

abbrev pub invariant-tokens : goal.invariant-tokens
invariant-tokens l = Scanned l.bytes l.tokens l.at

abbrev pub decreases-tokens : goal.decreases-tokens
decreases-tokens l = length l.bytes - l.at
