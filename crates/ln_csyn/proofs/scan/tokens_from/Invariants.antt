-- Invariants and measures of `tokens_from` in src/scan.rt.
use Rattle.std.proofs.Common.{◌-◌, length}
use Rattle.ln_csyn.proofs.Lexing.Scanned.{Skipped}
use Rattle.ln_csyn.proofs.scan.tokens_from.Given as goal

abbrev pub invariant-blanks : goal.invariant-blanks
invariant-blanks l = Skipped l.line l.bytes l.now l.at

abbrev pub decreases-blanks : goal.decreases-blanks
decreases-blanks l = length l.bytes - l.at
