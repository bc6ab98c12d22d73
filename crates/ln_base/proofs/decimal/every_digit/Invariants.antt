use Rattle.std.proofs.Common.{◌≡◌, drop}
use Rattle.std.specs.List.{list_all}
use Rattle.std.specs.Char.{is_ascii_digit}
use Rattle.ln_base.proofs.decimal.every_digit.Given as goal

abbrev pub invariant-bytes : goal.invariant-bytes
invariant-bytes l = list_all is_ascii_digit (drop l.b-index l.bytes) ≡ list_all is_ascii_digit l.bytes
