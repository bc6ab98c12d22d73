use Rattle.std.proofs.Common.{◌≡◌, drop}
use Rattle.ln_base.specs.Words.{every, is_name_byte}
use Rattle.ln_base.proofs.word.name_bytes.Given as goal

abbrev pub invariant-bytes : goal.invariant-bytes
invariant-bytes l = every is_name_byte (drop l.b-index l.bytes) ≡ every is_name_byte l.bytes
