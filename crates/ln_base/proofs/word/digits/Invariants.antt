use Rattle.std.proofs.Common.{◌≡◌, drop}
use Rattle.ln_base.specs.Words.{every, is_digit}
use Rattle.ln_base.proofs.word.digits.Given as goal

abbrev pub invariant-bytes : goal.invariant-bytes
invariant-bytes l = every is_digit (drop l.b-index l.bytes) ≡ every is_digit l.bytes
